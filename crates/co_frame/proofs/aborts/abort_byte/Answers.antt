-- Each law is a lemma.
use Rattle.co_frame.proofs.AbortByte.{request_aborts, response_aborts, segment_never_aborts, abort_is_no_segment, request_reads, response_reads}
use Rattle.co_frame.proofs.aborts.abort_byte.Goals as goal

pub returns-clause-requests : goal.returns-clause-requests
returns-clause-requests c = request_aborts

pub returns-clause-answers : goal.returns-clause-answers
returns-clause-answers c = response_aborts

pub returns-clause-segments : goal.returns-clause-segments
returns-clause-segments c = segment_never_aborts

pub returns-clause-apart : goal.returns-clause-apart
returns-clause-apart c = abort_is_no_segment

pub returns-clause-request : goal.returns-clause-request
returns-clause-request c = request_reads

pub returns-clause-answer : goal.returns-clause-answer
returns-clause-answer c = response_reads
