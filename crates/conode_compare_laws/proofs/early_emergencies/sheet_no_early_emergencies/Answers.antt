use Rattle.std.proofs.Common.{refl}
use Rattle.co_profile.specs.Keys.{emergency_inhibit_key}
use Rattle.co_dict.specs.Rows.{number_at}
use Rattle.conode_compare_laws.proofs.early_emergencies.sheet_no_early_emergencies.Goals as goal

pub returns : goal.returns
returns c = λ plan k subject rows configured master inputs built lawful is facts first time bytes control emergency answers without.
    c.built_no_early_emergencies.ensures plan k subject rows (number_at k.start emergency_inhibit_key) inputs built lawful is refl (c.keeps_inhibit.ensures plan k inputs built first)
    (c.times_of_sheet.ensures.inhibit plan k subject configured master built lawful facts) time bytes control emergency answers without
