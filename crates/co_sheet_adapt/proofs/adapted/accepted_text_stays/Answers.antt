use Rattle.co_sheet_adapt.proofs.CommentLemmas.{accepted-stays, accepted-later}
use Rattle.co_sheet_adapt.proofs.LaterLemmas.{accepted-node, accepted-objects, accepted-rows}
use Rattle.co_sheet_adapt.proofs.adapted.accepted_text_stays.Goals as goal

pub returns-clause-text : goal.returns-clause-text
returns-clause-text c = accepted-stays

pub returns-clause-sections : goal.returns-clause-sections
returns-clause-sections c = accepted-later

pub returns-clause-objects : goal.returns-clause-objects
returns-clause-objects c = accepted-objects

pub returns-clause-entries : goal.returns-clause-entries
returns-clause-entries c = accepted-rows

pub returns-clause-node_id : goal.returns-clause-node_id
returns-clause-node_id c = accepted-node
