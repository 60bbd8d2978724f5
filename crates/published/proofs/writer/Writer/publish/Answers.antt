use Rattle.std.proofs.Common.{◌≡◌, ◌==◌, false, vec_len, refl, ℕ, ◌<◌, List, []}
use Rattle.std.proofs.Common.{◌∷◌, ◌++◌, length, sym, ap, ◌∙◌, subst, arith}
use Rattle.std.proofs.lemmas.List.{append-nil}
use Rattle.std.proofs.lemmas.Bool.Decides.{nat_tests}
use Rattle.std.specs.Arc.{arc_value}
use Rattle.log_levels.specs.declared.update.Update.{Update}
use Rattle.log_levels.specs.Shapes.{Held, StandsFor}
use Rattle.published.specs.Histories.{Front, updates_of, count_of, published}
use Rattle.published.specs.Books.{head_of}
use Rattle.published.specs.Writers.{Written}
use Rattle.published.proofs.Prefixes.{updates_of-snoc, count_of-snoc, published-some}
use Rattle.published.proofs.writer.Writer.publish.Goals as goal

-- a map stands for the same updates, said in another way
stands_as : (m n : Held) (us vs : List Update) → StandsFor m us → n ≡ m → vs ≡ us → StandsFor n vs
stands_as m n us vs stands same_map same_updates =
    subst (λ (t : Held × List Update). StandsFor t.0 t.1) (λ i. (sym same_map i, sym same_updates i)) stands

-- a list whose length isn't 0
filled : (n m : ℕ) → (n == 0) ≡ false → n ≡ m → 0 < m
filled n m apart same = grind (arith, nat_tests)

pub new-version-requires : goal.new-version-requires
new-version-requires g c =
    let front = c.self.inside.front in
    let batch = c.self.inside.batch.items in
    let added : c.publish.new.self.batches ≡ front.batches ++ batch ∷ [] =
    c.publish.ensures.added ∙ ap (λ (f : Front). f.batches ++ batch ∷ []) c.again-front.ensures in
    stands_as
    (arc_value c.self.inside.map) _ (updates_of front.batches ++ batch) _ c.self.invariant.3 c.in_ok-map.ensures
    (ap (λ (f : Front). updates_of f.batches) c.again.ensures
    ∙ (ap updates_of added ∙ updates_of-snoc front.batches batch))

pub invariant_of-self : goal.invariant_of-self
invariant_of-self g c =
    let front = c.self.inside.front in
    let batch = c.self.inside.batch.items in
    let added : c.publish.new.self.batches ≡ front.batches ++ batch ∷ [] =
    c.publish.ensures.added ∙ ap (λ (f : Front). f.batches ++ batch ∷ []) c.again-front.ensures in
    let shown : c.show-shown.result.desk.shown.value ≡ c.publish.new.self = c.show-shown.ensures.shown
    ∙ (c.new-version.ensures ∙ c.again.ensures) in
    let origin : c.publish.new.self.origin ≡ front.origin = c.publish.ensures.own
    ∙ ap (λ (f : Front). f.origin) c.again-front.ensures in
    let emptied : c.clear.new.self.items ≡ [] = c.clear.ensures.items in
    let count = ap count_of added ∙ count_of-snoc front.batches batch in (
      rw c.replace.ensures.after refl,
      rw c.replace.ensures.after shown,
      c.self.invariant.2 ∙ ap head_of (sym origin),
      stands_as (arc_value c.self.inside.map) _ (updates_of front.batches ++ batch) _ c.self.invariant.3 refl
          (ap (λ us. updates_of c.publish.new.self.batches ++ us) emptied
          ∙ (append-nil (updates_of c.publish.new.self.batches)
          ∙ (ap updates_of added ∙ updates_of-snoc front.batches batch))),
      omega (arith, count, c.self.invariant.4, c.clear.ensures.len, c.self.inside.batch.ok.0),
    )

pub returns-clause-published : goal.returns-clause-published
returns-clause-published g c =
    let front = c.self.inside.front in
    let batch = c.self.inside.batch.items in
    let added : c.publish.new.self.batches ≡ front.batches ++ batch ∷ [] =
    c.publish.ensures.added ∙ ap (λ (f : Front). f.batches ++ batch ∷ []) c.again-front.ensures in
    let shown : c.show-shown.result.desk.shown.value ≡ c.publish.new.self = c.show-shown.ensures.shown
    ∙ (c.new-version.ensures ∙ c.again.ensures) in
    let history : front.batches ≡ c.args.self.now.history = sym (ap (λ (f : Front). f.batches) c.self.invariant.1)
    ∙ ap (λ (w : Written). w.history) c.self.view_is in
    let in_hand : batch ≡ c.args.self.now.batch = ap (λ (w : Written). w.batch) c.self.view_is in
    let some : 0 < length batch = filled (vec_len c.self.inside.batch)
    (length batch) (sym c.is_empty.ensures ∙ c.if-is_empty.false) c.self.inside.batch.ok.0 in
    rw c.replace.ensures.after
    (ap (λ (f : Front). f.batches) shown
    ∙ (added ∙ (sym (published-some front.batches batch some) ∙ (λ i. published (history i) (in_hand i)))))
