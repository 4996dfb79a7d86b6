-- A comparison, for examples: one late heartbeat, and no block upload.
use Rattle.std.proofs.Common.{ℕ, true, false, [], ◌∷◌, Some, None, codes}
use Rattle.co_profile.specs.declared.access.Access.TheVariants.{Rw}
use Rattle.co_sheet.specs.Content.{Row}
use Rattle.co_sheet.specs.Limits.{absent}
use Rattle.co_value.specs.declared.data_type.DataType.TheVariants.{Unsigned16}
use Rattle.conode_compare_nmt.specs.declared.finding.Finding.TheVariants.{HeartbeatLate}
use Rattle.conode_compare_text.specs.Beside.{no_details}
use Rattle.conode_compare_report.specs.declared.kind.Counted.{Counted}
use Rattle.conode_compare_report.specs.declared.kind.Kind.{Kind}
use Rattle.conode_compare_report.specs.declared.kind.Kind.TheVariants as kinds
use Rattle.conode_compare_report.specs.declared.noted.Noted.{Noted}
use Rattle.conode_compare_report.specs.declared.service.Service.TheVariants.{BootUp}
use Rattle.conode_compare_report.specs.Abouts.{Described}
use Rattle.conode_compare_report.specs.Coverages.{CoverageView}
use Rattle.conode_compare_report.specs.Reports.{nothing_kept}
use Rattle.conode_compare_report.specs.Views.{Kept}

abbrev pub heartbeat_row : Row
heartbeat_row = record {
  key = record { index = 0x1017; sub = 0 };
  data_type = Unsigned16;
  access = Rw;
  low = None;
  high = None;
  default = absent;
  mappable = false;
  name = Some (codes "<Heartbeat>");
  line = 1;
}

abbrev pub about : Described
about = record {
  version = codes "0.12.0";
  sheet = codes "a&b.eds";
  recording = codes "a.log";
  interface = None;
  node = 5;
  limits = record { tolerance = 10; drift = 1; answer = 1000; boot = 10000; time = None };
  rows = heartbeat_row ∷ [];
  vendor_name = Some (codes "A\"B");
  product_name = None;
  vendor = Some 69;
  product = None;
  revision = Some 0xFFFFFFFF;
  tally = record { prescribed = 2; different = 1; unjudged = 18; services = record { heartbeats = 3; emergencies = 4; answers = 5; tpdos = 6 } };
  several = false;
}

abbrev pub late : Noted
late = record { line = 3; micros = 3020001; finding = HeartbeatLate 1020001 1000; details = no_details; first = 0 }

abbrev pub counted : Kind → ℕ → ℕ → Counted
counted kind found occasions = record { kind = kind; found = found; occasions = occasions }

abbrev pub covered : CoverageView
covered = record {
  entries = record { read = false; written = true; refused = false } ∷ [];
  services = record { service = BootUp; count = 1 } ∷ [];
  states = record { initialising = false; pre_operational = true; operational = false; stopped = false };
  types = record { number = 254; count = 7 } ∷ [];
  aborts = record { number = 0x06020000; count = 2 } ∷ [];
  identity = record { revision = None; serial = Some 123456 };
}

abbrev pub report : Kept
report = record (nothing_kept [] 5) {
  kinds = counted kinds.HeartbeatLate 1 2 ∷ counted kinds.PdoSync 0 4 ∷ counted kinds.AnswerCrc 0 0 ∷ [];
  noted = late ∷ [];
  unlisted = 0;
  context = record { number = 2; bytes = codes "(2.000000) c 705#7F" } ∷ record { number = 3; bytes = 0xFC ∷ [] } ∷ record { number = 7; bytes = [] } ∷ [];
  coverage = covered;
  lines = 8;
  bad_lines = 1;
  begin = Some 1000000;
  end = 3020001;
}
