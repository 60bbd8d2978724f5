use Rattle.std.proofs.Common.{rules}
use Rattle.edge.proofs.mem_sink.MemSinkSink.put.Goals as goal
use Rattle.edge.proofs.mem_sink.MemSinkSink.put.Goals.{then-contains-via-then-contains}
use Rattle.edge.proofs.mem_sink.MemSinkSink.put.Goals.{then-contains-via-else-contains+then-n-self}

-- src/mem_sink.rt:75:13
pub returns-then-contains-clause-call : goal.returns-then-contains-clause-call
returns-then-contains-clause-call c = elim c.then-contains.branch
    [ then-contains-via-then-contains w ↦ search rules | then-contains-via-else-contains+then-n-self w ↦ search rules ]
