use Rattle.cilk_messages.proofs.Requests.{one_request}
use Rattle.cilk_messages.proofs.about.requests_are_one.Goals as goal

pub returns : goal.returns
returns c = one_request
