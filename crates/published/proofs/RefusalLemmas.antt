-- A writer refuses what its map refuses.
use Rattle.std.proofs.Common.{◌≡◌, ℕ, List, ◌++◌, length, Result, Ok, Err, IsErrAnd, sym, subst, ap, ◌∙◌}
use Rattle.log_levels.specs.declared.update.Update.{Update}
use Rattle.log_levels.specs.declared.fault.MapFault.{MapFault}
use Rattle.log_levels.specs.Accepted.{entries_of}
use Rattle.log_levels.specs.Shapes.{Held, StandsFor, capacity_of}
use Rattle.log_levels.specs.Refusals.{RefusesTooMany}
use Rattle.log_levels.specs.Refusals as map
use Rattle.log_levels.proofs.RefusalLemmas.{refuses-behind, refuses-err}
use Rattle.published.specs.Histories.{Front, updates_of}
use Rattle.published.specs.Writers.{Written, Refuses, count_in, updates_in}

-- a map that stands for what is published and in hand
pub refuses-writer : {X : Type 0} (held : Held) (writer : Written) (front : Front)
    (batch updates : List Update) (result : Result X MapFault) → StandsFor held (updates_of front.batches ++ batch)
    → front.batches ≡ writer.history → batch ≡ writer.batch →
    capacity_of held ≡ writer.capacity → map.Refuses held updates result → Refuses writer updates result
refuses-writer {X} held writer front batch updates result stands history in_hand capacity was =
    let all : updates_of front.batches ++ batch ≡ updates_in writer = λ i. updates_of (history i) ++ in_hand i in
    subst (λ room. RefusesTooMany (λ before. before ≡ updates_in writer) (count_in writer) room updates result) capacity
    (refuses-behind held (updates_in writer) updates result (subst (StandsFor held) all stands) was)

-- the fault is handed on
pub refuses-same : {X Y : Type 0} (writer : Written)
    (updates : List Update) (fault : MapFault) (result : Result Y MapFault) → IsErrAnd result (λ other. other ≡ fault)
    → Refuses {X = X} writer updates (Err fault) → Refuses writer updates result
refuses-same {X} {Y} writer updates fault (Ok value) is was = absurd is
refuses-same {X} {Y} writer updates fault (Err other) is was =
    rw is (refuses-err {X = X} {Y = Y}
    (λ before. before ≡ updates_in writer) (count_in writer) writer.capacity updates fault was)
