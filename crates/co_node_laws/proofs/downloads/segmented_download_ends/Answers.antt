use Rattle.co_node_laws.proofs.Segmented.{ends_done}
use Rattle.co_node_laws.proofs.downloads.segmented_download_ends.Goals as goal

pub returns-clause-done : goal.returns-clause-done
returns-clause-done c = λ k before key bytes mode apart h segmented. (ends_done k before key bytes mode apart h segmented).done

pub returns-clause-requests : goal.returns-clause-requests
returns-clause-requests c = λ k before key bytes mode apart h segmented. (ends_done k before key bytes mode apart h segmented).requests

pub returns-clause-entry : goal.returns-clause-entry
returns-clause-entry c = λ k before key bytes mode apart h segmented. (ends_done k before key bytes mode apart h segmented).entry
