-- What is refused.
use Rattle.std.proofs.Common.{◌≡◌, ℕ, zero, suc, ◌+◌, ◌<◌, ◌≤◌, ◌⊎◌, List, [], ◌∷◌, ◌++◌, length, All}
use Rattle.std.proofs.Common.{Result, Ok, Err, IsErrAnd, inl, inr, refl, sym, subst, ap, ◌∙◌, arith}
use Rattle.log_levels.specs.declared.update.Update.{Update}
use Rattle.log_levels.specs.declared.update.Update.TheVariants.{Sweep}
use Rattle.log_levels.specs.declared.fault.MapFault.{MapFault}
use Rattle.log_levels.specs.declared.fault.MapFault.TheVariants.{Full, NoMemory}
use Rattle.log_levels.specs.Accepted.{IsPlain, entries_of}
use Rattle.log_levels.specs.Shapes.{Held, StandsFor, capacity_of}
use Rattle.log_levels.specs.Refusals.{AreApplied, RefusesTooMany, Refuses}

pub plain-one : (update : Update) → IsPlain update → All IsPlain (update ∷ [])
plain-one update plain zero d inside = plain
plain-one update plain (suc k) d inside = absurd (omega arith)

pub sweep-plain : (low high : ℕ) → All IsPlain (Sweep low high ∷ []) → ⊥
sweep-plain low high plain = plain 0 (Sweep low high) (omega arith)

-- they are too many
pub refuses-full : {X : Type 0} (IsBefore : List Update → Type 0) (accepted capacity told : ℕ) (updates : List Update) →
    told ≡ accepted
    → ((before : List Update) → IsBefore before → capacity < length (entries_of (before ++ updates))) →
    (All IsPlain updates → capacity < accepted + length updates)
    → RefusesTooMany {X = X} IsBefore accepted capacity updates (Err (Full told))
refuses-full {X} IsBefore accepted capacity told updates tells over plain_over = record {
  full = λ before is many. inl (ap (λ n. Err (Full n)) tells);
  full_first = λ plain many. ap (λ n. Err (Full n)) tells;
  full_only = λ count same. (full-count count same ∙ tells, over);
  plain_only = λ plain count same. plain_over plain;
}
  where
    full-count : (other : ℕ) →
        (let first : Result X MapFault = Err (Full told) in first) ≡ Err (Full other) → other ≡ told
    full-count other same = cc

-- memory was wanted, and updates without a sweep aren't too many
pub refuses-memory : {X : Type 0} (IsBefore : List Update → Type 0)
    (accepted capacity : ℕ) (updates : List Update) (fault : MapFault) → fault ≡ NoMemory
    → (All IsPlain updates → accepted + length updates ≤ capacity) →
    RefusesTooMany {X = X} IsBefore accepted capacity updates (Err fault)
refuses-memory {X} IsBefore accepted capacity updates fault is_memory room = record {
  full = λ before is many. inr (ap Err is_memory);
  full_first = λ plain many. absurd (omega (arith, room plain, many));
  full_only = λ count same. absurd (apart count same);
  plain_only = λ plain count same. absurd (apart count same);
}
  where
    apart : (count : ℕ) → (let first : Result X MapFault = Err fault in first) ≡ Err (Full count) → ⊥
    apart count same = cc

-- there is room
pub refuses-none : {X : Type 0} (IsBefore : List Update → Type 0) (accepted capacity : ℕ) (updates : List Update)
    (value : X) → ((before : List Update) → IsBefore before → length (entries_of (before ++ updates)) ≤ capacity)
    → (All IsPlain updates → accepted + length updates ≤ capacity) →
    RefusesTooMany IsBefore accepted capacity updates (Ok value)
refuses-none {X} IsBefore accepted capacity updates value fits room = record {
  full = λ before is many. absurd (omega (arith, fits before is, many));
  full_first = λ plain many. absurd (omega (arith, room plain, many));
  full_only = λ count same. absurd (apart count same);
  plain_only = λ plain count same. absurd (apart count same);
}
  where
    apart : (count : ℕ) → Ok value ≡ Err (Full count) → ⊥
    apart count same = cc

-- the same of another answer
pub refuses-ok : {X Y : Type 0} (IsBefore : List Update → Type 0) (accepted capacity : ℕ)
    (updates : List Update) (value : X) (other : Y) → RefusesTooMany IsBefore accepted capacity updates (Ok value)
    → RefusesTooMany IsBefore accepted capacity updates (Ok other)
refuses-ok {X} {Y} IsBefore accepted capacity updates value other was = record {
  full = λ before is many. absurd (either (was.full before is many));
  full_first = λ plain many. absurd (apart (Full accepted) (was.full_first plain many));
  full_only = λ count same. absurd (apart' (Full count) same);
  plain_only = λ plain count same. absurd (apart' (Full count) same);
}
  where
    apart : (fault : MapFault) → Ok value ≡ Err fault → ⊥
    apart fault same = cc

    apart' : (fault : MapFault) → Ok other ≡ Err fault → ⊥
    apart' fault same = cc

    either : (Ok value ≡ Err (Full accepted)) ⊎ (Ok value ≡ Err NoMemory) → ⊥
    either (inl same) = apart (Full accepted) same
    either (inr same) = apart NoMemory same

pub refuses-err : {X Y : Type 0} (IsBefore : List Update → Type 0) (accepted capacity : ℕ)
    (updates : List Update) (fault : MapFault) → RefusesTooMany {X = X} IsBefore accepted capacity updates (Err fault)
    → RefusesTooMany {X = Y} IsBefore accepted capacity updates (Err fault)
refuses-err {X} {Y} IsBefore accepted capacity updates fault was = record {
  full = λ before is many. either (was.full before is many);
  full_first = λ plain many. ap Err (there (Full accepted) (was.full_first plain many));
  full_only = λ count same. was.full_only count (ap Err (here (Full count) same));
  plain_only = λ plain count same. was.plain_only plain count (ap Err (here (Full count) same));
}
  where
    there : (other : MapFault) → (let first : Result X MapFault = Err fault in first) ≡ Err other → fault ≡ other
    there other same = cc

    here : (other : MapFault) → (let first : Result Y MapFault = Err fault in first) ≡ Err other → fault ≡ other
    here other same = cc

    either : ((let first : Result X MapFault = Err fault in first) ≡ Err (Full accepted))
        ⊎ ((let first : Result X MapFault = Err fault in first) ≡ Err NoMemory)
        → ((let first : Result Y MapFault = Err fault in first) ≡ Err (Full accepted))
        ⊎ ((let first : Result Y MapFault = Err fault in first) ≡ Err NoMemory)
    either (inl same) = inl (ap Err (there (Full accepted) same))
    either (inr same) = inr (ap Err (there NoMemory same))

-- of one list of updates before
pub refuses-behind : {X : Type 0} (held : Held) (now updates : List Update) (result : Result X MapFault) →
    StandsFor held now → Refuses held updates result
    → RefusesTooMany (λ before. before ≡ now) (length (entries_of now)) (capacity_of held) updates result
refuses-behind {X} held now updates result stands was =
    subst (λ accepted. RefusesTooMany (λ before. before ≡ now) accepted (capacity_of held) updates result)
    stands.accepted (record {
      full = λ before is many. was.full before (subst (StandsFor held) (sym is) stands) many;
      full_first = was.full_first;
      full_only = λ count same. (
        (was.full_only count same).0,
        λ before is. (was.full_only count same).1 before (subst (StandsFor held) (sym is) stands),
      );
      plain_only = was.plain_only;
    })

-- a fault is either of both
pub refuses-fault : {X : Type 0} (IsBefore : List Update → Type 0) (accepted capacity : ℕ)
    (updates : List Update) (fault : MapFault) → (All IsPlain updates → accepted + length updates ≤ capacity)
    → ((told : ℕ) → fault ≡ Full told → (told ≡ accepted)
    × ((before : List Update) → IsBefore before → capacity < length (entries_of (before ++ updates)))
    × (All IsPlain updates → capacity < accepted + length updates))
    → RefusesTooMany {X = X} IsBefore accepted capacity updates (Err fault)
refuses-fault {X} IsBefore accepted capacity updates (Full told) room full =
    let (tells, over, plain_over) = full told refl in
    refuses-full {X = X} IsBefore accepted capacity told updates tells over plain_over
refuses-fault {X} IsBefore accepted capacity updates NoMemory room full =
    refuses-memory {X = X} IsBefore accepted capacity updates NoMemory refl room

-- for want of memory a map is as it was
pub applied-memory : {X : Type 0} (old new : Held) (updates : List Update) (result : Result X MapFault) →
    IsErrAnd result (λ fault. fault ≡ NoMemory)
    → (All IsPlain updates → old.accepted + length updates ≤ capacity_of old) →
    new ≡ old → AreApplied old new updates result
applied-memory {X} old new updates (Ok value) is room same = absurd is
applied-memory {X} old new updates (Err fault) is room same = record {
  applied = tt;
  refused = refuses-memory (StandsFor old) old.accepted (capacity_of old) updates fault is room;
  unchanged = same;
  levels = ap (λ (held : Held). length held.levels) same;
}

-- so it is where the map to be was refused
pub applied-err : {X Y : Type 0} (old : Held) (updates : List Update) (fault : MapFault) (result : Result Y MapFault) →
    IsErrAnd result (λ other. other ≡ fault)
    → Refuses {X = X} old updates (Err fault) → AreApplied old old updates result
applied-err {X} {Y} old updates fault (Ok value) is was = absurd is
applied-err {X} {Y} old updates fault (Err other) is was = record {
  applied = tt;
  refused = rw is (refuses-err {X = X} {Y = Y} (StandsFor old) old.accepted (capacity_of old) updates fault was);
  unchanged = refl;
  levels = refl;
}
