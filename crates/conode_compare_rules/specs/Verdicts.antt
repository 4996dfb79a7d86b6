-- What is found at a frame, and its verdict.
use Rattle.std.specs.Prelude.{Bool, ◌||◌, if◌then◌else◌, Option, Some, None, is_some}
use Rattle.conode_compare_nmt.specs.declared.finding.Finding.{Finding}
use Rattle.conode_compare_rules.specs.declared.verdict.Findings.{Findings}
use Rattle.conode_compare_rules.specs.declared.verdict.Verdict.{Verdict}
use Rattle.conode_compare_rules.specs.declared.verdict.Verdict.TheVariants.{Prescribed, Different, Unjudged}

-- of a frame that isn't one of the device
abbrev pub nothing_found : Findings
nothing_found = record { boot = None; heartbeat = None; answer = None; frame = None; verdict = None }

abbrev pub verdict_of : Bool → Bool → Verdict
verdict_of found judged = if found then Different else (if judged then Prescribed else Unjudged)

abbrev pub is_found : Option Finding → Option Finding → Option Finding → Option Finding → Bool
is_found boot heartbeat answer frame = is_some boot || (is_some heartbeat || (is_some answer || is_some frame))

-- of a frame of the device
unfoldable pub found : Option Finding → Option Finding → Option Finding → Option Finding → Bool → Findings
found boot heartbeat answer frame judged = record {
  boot = boot;
  heartbeat = heartbeat;
  answer = answer;
  frame = frame;
  verdict = Some (verdict_of (is_found boot heartbeat answer frame) judged);
}
