-- The pieces are those of hints of the keys.
use Rattle.std.proofs.Common.{◌≡◌, ◌+◌, ◌<◌, ◌^◌, ℕ, List, refl, subst, sym}
use Rattle.std.specs.Prelude.{All}
use Rattle.hints.specs.Leads.{HaveLeastLines}
use Rattle.hints.specs.Lookups.{LeadsWithin}
use Rattle.written.proofs.WritingLemmas.{broken_text}
use Rattle.commands.specs.Texts.Hints.{AreHints, hint_pieces}
use Rattle.commands.proofs.hint_numbers.write.Goals as goal

-- the hints that are handed over are those that were made
are_hints : (keys hints handed : List ℕ) (eps : ℕ) →
    All (λ hint. hint < 2 ^ 64) handed → LeadsWithin hints keys (eps + 2) →
    HaveLeastLines keys eps hints → handed ≡ hints → AreHints keys eps (hint_pieces handed)
are_hints keys hints handed eps small lead least same = record {
  hints = handed;
  small = small;
  lead = subst (λ (w : List ℕ). LeadsWithin w keys (eps + 2)) (sym same) lead;
  least = subst (HaveLeastLines keys eps) (sym same) least;
  told = refl;
}

pub returns : goal.returns
returns g c = (
  hint_pieces c.deref.result.now,
  are_hints c.args.fitting.sorted.keys.items
      c.in_ok-hints.hints.items c.deref.result.now c.args.fitting.eps c.in_ok-write_hints.ensures.small
      c.in_ok-hints.ensures.lead c.in_ok-hints.ensures.least c.deref.ensures.value,
  c.in_ok-write_hints.ensures.written,
)

pub returns-in_err-write_hints : goal.returns-in_err-write_hints
returns-in_err-write_hints g c =
    broken_text _ c.from_residual-in_err-write_hints.result c.from_residual-in_err-write_hints.ensures.1
    (are_hints c.args.fitting.sorted.keys.items
    c.in_ok-hints.hints.items c.deref.result.now c.args.fitting.eps c.in_err-write_hints.ensures.small
    c.in_ok-hints.ensures.lead c.in_ok-hints.ensures.least c.deref.ensures.value)
    c.in_err-write_hints.ensures.written
