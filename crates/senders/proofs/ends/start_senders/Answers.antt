-- The rule holds of the empty queue.
use Rattle.senders.proofs.Steps.{begins}
use Rattle.senders.proofs.ends.start_senders.Goals as goal

pub ruled-requires-clause-rule : goal.ruled-requires-clause-rule
ruled-requires-clause-rule c = begins
