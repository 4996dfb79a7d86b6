-- What a proof unfolds to compute what is read of a line that is written out.
use Rattle.std.specs.Prelude.{⊤}
use Rattle.conode_record.specs.Fields.{stamp_at}
use Rattle.conode_record.specs.Numbers.{date_at, day_of, millis_in, moment_at, seconds_in, time_at, with_three}
use Rattle.conode_record.specs.Parts.{byte_at, bytes_at, channel_at, count_at, direction_at, name_at}
use Rattle.conode_record.specs.Words.{past_gap, word_at}

unfoldable pub parts_on_lines : ⊤
unfolding stamp_at date_at day_of millis_in moment_at seconds_in time_at with_three byte_at bytes_at channel_at count_at direction_at name_at past_gap word_at
parts_on_lines = tt
