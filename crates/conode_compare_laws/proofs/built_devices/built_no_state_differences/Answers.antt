use Rattle.conode_compare_laws.proofs.built_devices.built_no_state_differences.Goals as goal

pub returns : goal.returns
returns c = λ plan k subject rows inputs built is elsewhere. c.no_state_differences.ensures.begun k subject rows inputs is elsewhere (c.begins_aside.ensures plan k built)
