use Rattle.conode_decode.specs.SdoTexts.{request_text}
use Rattle.conode_decode.proofs.sdo_texts.push_request.Goals as goal

pub returns-in-UploadSegment : goal.returns-in-UploadSegment
unfolding request_text
returns-in-UploadSegment c = rw c.in-UploadSegment.is c.push_with_toggle.ensures

pub returns-in-BlockUploadInitiate : goal.returns-in-BlockUploadInitiate
unfolding request_text
returns-in-BlockUploadInitiate c = rw c.in-BlockUploadInitiate.is c.push_block_initiate.ensures

pub returns-in-BlockUploadEnd : goal.returns-in-BlockUploadEnd
unfolding request_text
returns-in-BlockUploadEnd c = rw c.in-BlockUploadEnd.is c.push_words.ensures

pub returns-in-BlockUploadStart : goal.returns-in-BlockUploadStart
unfolding request_text
returns-in-BlockUploadStart c = rw c.in-BlockUploadStart.is c.push_words-in-BlockUploadStart.ensures
