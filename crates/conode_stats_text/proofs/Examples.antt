-- Figures, cells and lines, evaluated.
use Rattle.std.proofs.Common.{◌≡◌, Some, None, refl}
use Rattle.std.specs.Prelude.{codes}
use Rattle.std.specs.Fmt.{digits}
use Rattle.co_text.specs.Printed.{digits_text}
use Rattle.conode_stats_text.specs.Cells.{figure, seconds, tenths, thousandths}
use Rattle.conode_stats_text.specs.Figures.{ratio, room_in}
use Rattle.conode_stats_text.specs.StatsLines.{frames_in, id_text}

-- ---- figures

half : ratio 1 1000 2 ≡ Some 500
unfolding ratio
half = refl

rounded_down : ratio 2 1000 3 ≡ Some 666
unfolding ratio
rounded_down = refl

of_nothing : ratio 2 1000 0 ≡ None
unfolding ratio
of_nothing = refl

greatest_product : ratio 18446744073709551 1000 1 ≡ Some 18446744073709551000
unfolding ratio
greatest_product = refl

too_great : ratio 18446744073709552 1000 1 ≡ None
unfolding ratio
too_great = refl

-- 2.5 s at 125 kbit/s
room : room_in 125000 2500000 ≡ 312500
unfolding room_in
room = refl

-- ---- cells

-- a figure that fits, one that fills all but the blank, and wider ones
figure_in_column : figure 5 (codes "12") ≡ codes "   12"
figure_in_column = refl

widest_figure : figure 5 (codes "1234") ≡ codes " 1234"
widest_figure = refl

figure_of_the_width : figure 5 (codes "12345") ≡ codes " 12345"
figure_of_the_width = refl

wide_figure : figure 5 (codes "123456") ≡ codes " 123456"
wide_figure = refl

tenths_text : tenths 1234 ≡ codes "123.4"
unfolding tenths digits_text digits
tenths_text = refl

small_tenths : tenths 5 ≡ codes "0.5"
unfolding tenths digits_text digits
small_tenths = refl

thousandths_text : thousandths 9071 ≡ codes "9.071"
unfolding thousandths digits_text digits
thousandths_text = refl

seconds_text : seconds 3058000 ≡ codes "3.058000"
unfolding seconds digits_text digits
seconds_text = refl

short_id : id_text 0x5 ≡ codes "005"
unfolding id_text digits_text digits
short_id = refl

last_short_id : id_text 0x7FF ≡ codes "7FF"
unfolding id_text digits_text digits
last_short_id = refl

extended_id : id_text 0x80000012 ≡ codes "00000012"
unfolding id_text digits_text digits
extended_id = refl

error_id : id_text 0x20000080 ≡ codes "20000080"
unfolding id_text digits_text digits
error_id = refl

-- ---- how many frames

one_frame : frames_in 1 ≡ codes " frame in "
one_frame = refl

two_frames : frames_in 2 ≡ codes " frames in "
two_frames = refl

no_frames : frames_in 0 ≡ codes " frames in "
no_frames = refl
