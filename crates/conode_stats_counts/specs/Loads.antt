-- How many bits frames take on a bus: in all, and in the busiest second.
use Rattle.std.specs.Prelude.{ℕ, ◌+◌, ◌/◌, ◌==◌, nat_lt, if◌then◌else◌, List, [], ◌∷◌}
use Rattle.std.specs.List.{sum_by}
use Rattle.conode_record.specs.declared.line.Record.{Record}
use Rattle.conode_stats_counts.specs.declared.load.Load.{Load}
use Rattle.conode_stats_counts.specs.declared.load.Second.{Second}
use Rattle.conode_stats_counts.specs.declared.size.Size.{Size}
use Rattle.conode_stats_counts.specs.Gaps.{counted}
use Rattle.conode_stats_counts.specs.Sizes.{size_of}

-- the bits of a frame
abbrev pub frame_size : Record → Size
frame_size frame = size_of frame.id frame.content

-- the second that a stamp in microseconds is in
abbrev pub second_of : Record → ℕ
second_of frame = frame.micros / 1000000

-- ---- by definition

-- The bits of the newest frame and of those that came in a row before it, all in one second of
-- stamps; and that second.
unfoldable pub newest_second : List Record → Second
newest_second [] = record { second = 0; bits = 0; most = 0 }
newest_second (frame ∷ older) =
    let before = newest_second older in
    if before.second == second_of frame
    then record {
      second = second_of frame;
      bits = counted (before.bits + (frame_size frame).bits);
      most = counted (before.most + (frame_size frame).most);
    }
    else record { second = second_of frame; bits = (frame_size frame).bits; most = (frame_size frame).most }

-- the second with the most bits; the first one, if several have as many
unfoldable pub busiest_second : List Record → Second
busiest_second [] = record { second = 0; bits = 0; most = 0 }
busiest_second (frame ∷ older) =
    if nat_lt (busiest_second older).bits (newest_second (frame ∷ older)).bits
    then newest_second (frame ∷ older)
    else busiest_second older

-- 1 for a frame of unknown size
abbrev pub unknown : Record → ℕ
unknown frame = if (frame_size frame).bits == 0 then 1 else 0

-- the load of frames, the newest first
unfoldable pub load_of : List Record → Load
load_of frames = record {
  bits = counted (sum_by (λ frame. (frame_size frame).bits) frames);
  most = counted (sum_by (λ frame. (frame_size frame).most) frames);
  unknown = counted (sum_by unknown frames);
  now = newest_second frames;
  busiest = busiest_second frames;
}

-- ---- one frame more, as it is counted

abbrev pub second_with : Second → ℕ → Size → Second
second_with now second size =
    if now.second == second
    then record { second = second; bits = counted (now.bits + size.bits); most = counted (now.most + size.most) }
    else record { second = second; bits = size.bits; most = size.most }

abbrev pub busier : Second → Second → Second
busier busiest now = if nat_lt busiest.bits now.bits then now else busiest

unfoldable pub load_with : Load → ℕ → Size → Load
load_with load second size = record {
  bits = counted (load.bits + size.bits);
  most = counted (load.most + size.most);
  unknown = counted (load.unknown + (if size.bits == 0 then 1 else 0));
  now = second_with load.now second size;
  busiest = busier load.busiest (second_with load.now second size);
}
