use Rattle.co_node.proofs.built_laws.built_download_ends.Goals as goal

pub returns-clause-done : goal.returns-clause-done
returns-clause-done c = λ plan k before key bytes mode built h segmented.
    c.segmented_download_ends.ensures.done k before key bytes mode (c.stays_apart.ensures k before (c.begins_apart.ensures plan k built)) h segmented

pub returns-clause-requests : goal.returns-clause-requests
returns-clause-requests c = λ plan k before key bytes mode built h segmented.
    c.segmented_download_ends.ensures.requests k before key bytes mode (c.stays_apart.ensures k before (c.begins_apart.ensures plan k built)) h segmented

pub returns-clause-entry : goal.returns-clause-entry
returns-clause-entry c = λ plan k before key bytes mode built h segmented.
    c.segmented_download_ends.ensures.entry k before key bytes mode (c.stays_apart.ensures k before (c.begins_apart.ensures plan k built)) h segmented
