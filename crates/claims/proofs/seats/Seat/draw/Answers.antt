-- A draw is one step of the claim word.
use Rattle.std.proofs.Common.{ℕ, ◌<◌, if◌then◌else◌, Bool, List, length, get_or, ap, sym, ◌∙◌, subst, arith}
use Rattle.std.proofs.lemmas.List.{get_or_default}
use Rattle.claims.specs.Claims.{Claimed, Drawn, Origin}
use Rattle.claims.proofs.Steps.{draws}
use Rattle.claims.proofs.seats.Seat.draw.Goals as goal

pub fetch_add-found-requires : goal.fetch_add-found-requires
fetch_add-found-requires c =
    let s = c.self.inside in
    let t = c.claims.inside.table.shared in (
      ap (λ (o : Origin). o.table)
          (ap (λ (d : Drawn). d.origin) c.self.view_is
          ∙ c.requires.own ∙ sym (ap (λ (d : Claimed). d.origin) c.claims.view_is)),
      omega (arith, c.claims.invariant.0),
      draws t.key t.table_id.slots s.seat.id s.seat.me c.self.invariant.one
          (c.self.invariant.mark ∙ ap (λ (b : Bool). if b then 1 else 0) c.if-self.false),
    )

pub returns-then-found-from-clause-rises : goal.returns-then-found-from-clause-rises
returns-then-found-from-clause-rises c =
    let drawn = ap (λ (d : Drawn). d.drawn) c.self.view_is in
    let bound = ap (λ (o : Origin). o.pieces)
    (ap (λ (d : Drawn). d.origin) c.self.view_is
    ∙ c.requires.own ∙ sym (ap (λ (d : Claimed). d.origin) c.claims.view_is)) in
    let below = (c.fetch_add-found.ensures.2.1 (omega (arith, bound, c.from.ensures, c.if-found-from.true))).1 in
    λ k d inside.
    let short : k < length c.self.inside.seat.me.0.drawn = subst (λ (l : List ℕ). k < length l) (sym drawn) inside in
    subst (λ (l : List ℕ). get_or l k d < c.fetch_add-found.result) drawn
    (omega (arith, below k short, get_or_default c.self.inside.seat.me.0.drawn k d 0 short))
