use Rattle.std.proofs.Common.{[], sym, subst}
use Rattle.co_profile.specs.Keys.{producer_key}
use Rattle.conode_compare_laws.specs.Periods.{AllWriteSeen}
use Rattle.conode_compare_laws.proofs.LateOfSheet.{by_sheet}
use Rattle.conode_compare_laws.proofs.late_heartbeats.sheet_no_late_heartbeats.Goals as goal

pub returns : goal.returns
returns c = record {
  seen = by_sheet c.built_no_late_heartbeats.ensures c.built_no_late_heartbeats_written.ensures c.follows_period.ensures.keep c.times_of_sheet.ensures.period c.times_of_sheet.ensures.unknown;
  told = λ plan k subject rows configured master inputs built lawful is facts unwritten given shown time bytes control answers.
      by_sheet c.built_no_late_heartbeats.ensures c.built_no_late_heartbeats_written.ensures c.follows_period.ensures.keep c.times_of_sheet.ensures.period c.times_of_sheet.ensures.unknown plan k subject rows configured master inputs built lawful is facts
      (subst (λ clients. AllWriteSeen clients producer_key k [] inputs) (sym (c.times_of_sheet.ensures.clients plan subject configured master facts))
      (c.writes_seen.ensures plan k _ producer_key inputs built unwritten (c.told_of_sheet.ensures plan k inputs built lawful given shown)))
      time bytes control answers;
}
