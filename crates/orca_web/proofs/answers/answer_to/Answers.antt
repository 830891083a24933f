use Rattle.std.proofs.Common.{sym, ap}
use Rattle.std.specs.Fmt.{digits}
use Rattle.orca_web.specs.Answers.{answer_to}
use Rattle.orca_web.proofs.answers.answer_to.Goals as goal

pub returns-in-BadRequest : goal.returns-in-BadRequest
unfolding digits
returns-in-BadRequest c = sym (ap answer_to c.in-BadRequest.is)

pub returns-in-Forbidden : goal.returns-in-Forbidden
unfolding digits
returns-in-Forbidden c = sym (ap answer_to c.in-Forbidden.is)

pub returns-in-NotFound : goal.returns-in-NotFound
unfolding digits
returns-in-NotFound c = sym (ap answer_to c.in-NotFound.is)

pub returns-in-MethodNotAllowed : goal.returns-in-MethodNotAllowed
unfolding digits
returns-in-MethodNotAllowed c = sym (ap answer_to c.in-MethodNotAllowed.is)

pub returns-in-Timeout : goal.returns-in-Timeout
unfolding digits
returns-in-Timeout c = sym (ap answer_to c.in-Timeout.is)

pub returns-in-TooLong : goal.returns-in-TooLong
unfolding digits
returns-in-TooLong c = sym (ap answer_to c.in-TooLong.is)

pub returns-in-Full : goal.returns-in-Full
unfolding digits
returns-in-Full c = sym (ap answer_to c.in-Full.is)
