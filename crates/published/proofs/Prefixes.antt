-- Prefixes of one history.
use Rattle.std.proofs.Common.{◌≡◌, ◌+◌, ◌<◌, ◌≤◌, List, [], ◌∷◌, ◌++◌, length, refl}
use Rattle.std.proofs.Common.{ap, sym, ◌∙◌, arith, append_assoc, length-append}
use mathlib.Core.List.{IsPrefix}
use Rattle.log_levels.specs.declared.update.Update.{Update}
use Rattle.published.specs.Histories.{updates_of, count_of, AreFilled, published}

-- each list begins with itself
pub prefix_self : {A : Type 0} (xs : List A) → IsPrefix xs xs
prefix_self [] = ([], refl)
prefix_self (x ∷ xs) = (let r = prefix_self xs in r.0, ap (λ ys. x ∷ ys) (prefix_self xs).1)

pub prefix_trans : {A : Type 0} (xs ys zs : List A) → IsPrefix xs ys → IsPrefix ys zs → IsPrefix xs zs
prefix_trans xs ys zs p q = (p.0 ++ q.0, sym (append_assoc xs p.0 q.0) ∙ (ap (λ w. w ++ q.0) p.1 ∙ q.1))

-- a list as a prefix of itself with more behind
pub prefix_more : {A : Type 0} (xs ys : List A) → IsPrefix xs (xs ++ ys)
prefix_more xs ys = (ys, refl)

-- the updates of a batch and then of others
pub count_of-cons : (batch : List Update) (batches : List (List Update)) →
    count_of (batch ∷ batches) ≡ length batch + count_of batches
count_of-cons batch batches = length-append batch (updates_of batches)

pub updates_of-append : (xs ys : List (List Update)) → updates_of (xs ++ ys) ≡ updates_of xs ++ updates_of ys
updates_of-append [] ys = refl
updates_of-append (x ∷ xs) ys =
    ap (λ us. x ++ us) (updates_of-append xs ys) ∙ sym (append_assoc x (updates_of xs) (updates_of ys))

pub count_of-append : (xs ys : List (List Update)) → count_of (xs ++ ys) ≡ count_of xs + count_of ys
count_of-append xs ys = ap (λ us. length us) (updates_of-append xs ys) ∙ length-append (updates_of xs) (updates_of ys)

pub updates_of-one : (batch : List Update) → updates_of (batch ∷ []) ≡ batch
updates_of-one batch = append_nil batch
  where
    append_nil : (us : List Update) → us ++ [] ≡ us
    append_nil [] = refl
    append_nil (u ∷ us) = ap (λ vs. u ∷ vs) (append_nil us)

-- of two prefixes of one history the shorter begins the longer
pub prefix_shorter : (xs ys zs : List (List Update)) →
    AreFilled zs → IsPrefix xs zs → IsPrefix ys zs → count_of xs ≤ count_of ys → IsPrefix xs ys
prefix_shorter [] ys zs filled p q le = (ys, refl)
prefix_shorter (x ∷ xs) ys [] filled p q le = absurd (cc (p.1))
prefix_shorter (x ∷ xs) [] (z ∷ zs) filled p q le =
    let same : length x ≡ length z = ap (λ (l : List Update). length l) (cc (p.1)) in
    absurd (omega (arith, count_of-cons x xs, filled.0))
prefix_shorter (x ∷ xs) (y ∷ ys) (z ∷ zs) filled p q le =
    let heads : x ≡ y = cc (p.1, q.1) in
    let rest = prefix_shorter xs ys zs filled.1 (p.0, cc (p.1)) (q.0, cc (q.1))
    (omega (arith, count_of-cons x xs, count_of-cons y ys, ap (λ (l : List Update). length l) heads)) in
    (rest.0, cc (heads, rest.1))

-- a prefix as long as the whole is the whole
pub prefix_whole : (xs ys : List (List Update)) → AreFilled ys → IsPrefix xs ys → count_of ys ≤ count_of xs → xs ≡ ys
prefix_whole [] [] filled p le = refl
prefix_whole [] (y ∷ ys) filled p le = absurd (omega (arith, count_of-cons y ys, filled.0))
prefix_whole (x ∷ xs) [] filled p le = absurd (cc (p.1))
prefix_whole (x ∷ xs) (y ∷ ys) filled p le =
    let heads : x ≡ y = cc (p.1) in
    let rest = prefix_whole xs ys filled.1 (p.0, cc (p.1))
    (omega (arith, count_of-cons x xs, count_of-cons y ys, ap (λ (l : List Update). length l) heads)) in
    cc (heads, rest)

-- a prefix is no longer than the whole
pub prefix_count : (xs ys : List (List Update)) → IsPrefix xs ys → count_of xs ≤ count_of ys
prefix_count xs ys p = omega (arith, sym (ap count_of p.1) ∙ count_of-append xs p.0)

-- one more batch
pub filled_more : (xs : List (List Update)) (batch : List Update) →
    AreFilled xs → 0 < length batch → AreFilled (xs ++ batch ∷ [])
filled_more [] batch filled some = (some, tt)
filled_more (x ∷ xs) batch filled some = (filled.0, filled_more xs batch filled.1 some)

-- the updates once a batch is published
pub updates_of-snoc : (history : List (List Update)) (batch : List Update) →
    updates_of (history ++ batch ∷ []) ≡ updates_of history ++ batch
updates_of-snoc history batch =
    updates_of-append history (batch ∷ []) ∙ ap (λ us. updates_of history ++ us) (updates_of-one batch)

pub count_of-snoc : (history : List (List Update)) (batch : List Update) →
    count_of (history ++ batch ∷ []) ≡ count_of history + length batch
count_of-snoc history batch =
    ap (λ (us : List Update). length us) (updates_of-snoc history batch) ∙ length-append (updates_of history) batch

-- a batch that isn't empty stands at the end
pub published-some : (history : List (List Update)) (batch : List Update) →
    0 < length batch → published history batch ≡ history ++ batch ∷ []
published-some history [] some = absurd (omega arith)
published-some history (update ∷ updates) some = refl
