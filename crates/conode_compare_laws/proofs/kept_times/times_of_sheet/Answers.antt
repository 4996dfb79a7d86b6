use Rattle.conode_compare_laws.proofs.SheetTimes.{clients_are, knows_inhibit, knows_period, unknown_before}
use Rattle.conode_compare_laws.proofs.kept_times.times_of_sheet.Goals as goal

pub returns : goal.returns
returns c = record {
  period = λ plan k subject configured master built lawful same. knows_period plan k built lawful configured master subject same;
  inhibit = λ plan k subject configured master built lawful same. knows_inhibit plan k built lawful configured master subject same;
  unknown = λ plan subject configured master same off. unknown_before plan configured master subject same off;
  clients = λ plan subject configured master same. clients_are plan configured master subject same;
}
