-- Which bad lines can't have had a frame of the bus that is compared, and how often a recording begins anew after the others.
use Rattle.std.proofs.Common.{◌≡◌, ℕ, true, false, List, [], ◌∷◌, map, None, Some, refl}
use Rattle.std.specs.Prelude.{codes}
use Rattle.conode_explain.specs.LogLines.{line_at}
use Rattle.conode_logs.proofs.OnLines.{logs_on_lines}
use Rattle.conode_logs.specs.declared.log.Form.TheVariants.{Asc, Candump, Screen}
use Rattle.conode_logs.specs.Logs.{asc_of_old}
use Rattle.conode_compare_nmt.specs.declared.limits.Subject.{Subject}
use Rattle.conode_compare.specs.declared.comparing.Comparing.{Comparing}
use Rattle.conode_compare.specs.BadLines.{has_no_frame, interface_in, is_alone}
use Rattle.conode_compare.specs.Compared.{bad_counted, bad_noted, begun_anew, may_be_compared, may_have_frame, nothing_compared}
use Rattle.conode_compare.specs.ComparedFrames.{BadLine, FrameIn, IsOn, LineRead, compared_frames, read_of_lines, read_of_text}

-- ---- comments and lines of blanks

-- one blank, a tab, and none
no_words : map has_no_frame ((32 ∷ []) ∷ (32 ∷ 9 ∷ 32 ∷ []) ∷ [] ∷ []) ≡ true ∷ true ∷ true ∷ []
unfolding has_no_frame
no_words = refl

comments : map has_no_frame (codes ";" ∷ codes " ;5" ∷ codes "//" ∷ codes "  //5" ∷ codes "#" ∷ codes " # 5" ∷ (35 ∷ 9 ∷ 53 ∷ []) ∷ []) ≡ true ∷ true ∷ true ∷ true ∷ true ∷ true ∷ true ∷ []
unfolding has_no_frame
comments = refl

-- what may be left of a frame's line, and other words
no_comments : map has_no_frame (codes "#0105" ∷ codes "##105" ∷ codes "#;" ∷ codes "/" ∷ codes "/ /" ∷ codes "!tick 5" ∷ codes " 000#0105" ∷ codes "5 ; 5" ∷ (27 ∷ []) ∷ (0 ∷ []) ∷ [])
    ≡ false ∷ false ∷ false ∷ false ∷ false ∷ false ∷ false ∷ false ∷ false ∷ false ∷ []
unfolding has_no_frame
no_comments = refl

-- ---- lines that name an interface

-- half a byte, nine bytes, no flags, a CAN XL frame, and a direction; a line that is no longer a frame's only after the number sign
named : map interface_in (
    codes "(1.500000) can1 705#0" ∷ codes "(1.500000) can1 705#000102030405060708" ∷ codes "(1.500000) can1 705##" ∷ codes "(1.500000) can1 00242123#81:00:00000242#11"
    ∷ codes "(1.500000)  can1  705#0 R" ∷ codes "(1.500000) can1 705#0 T" ∷ []
    ) ≡ map Some (codes "can1" ∷ codes "can1" ∷ codes "can1" ∷ codes "can1" ∷ codes "can1" ∷ codes "can1" ∷ [])
unfolding logs_on_lines interface_in is_alone
named = refl

-- no number sign, no identifier, no stamp of six digits, no blank before the interface, a comment; a blank that no direction follows, as
-- where the line feed was lost, or a part of two lines
not_named : map interface_in (
    codes "(1.500000) can1 705" ∷ codes "(1.500000) can1 800#0" ∷ codes "(1.5) can1 705#0" ∷ codes "(1.500000)can1 705#0" ∷ codes "; (1.500000) can1 705#0"
    ∷ codes "(1.500000) can1 705#0 X" ∷ codes "(1.500000) can1 705#0 " ∷ codes "(1.500000) can1 705#0 RT" ∷ codes "(1.500000) can1 705#7F(1.600000) can0 000#0105"
    ∷ codes "(1.500000) can1 705#n0 000#0105" ∷ codes "(1.500000) c(1.600000) can0 000#0105" ∷ []
    ) ≡ None ∷ None ∷ None ∷ None ∷ None ∷ None ∷ None ∷ None ∷ None ∷ None ∷ None ∷ []
unfolding logs_on_lines interface_in is_alone
not_named = refl

-- of the interface that is named, else of that of the first frame; of any, where it can't be read
compared : map (may_be_compared (Some (codes "can0")) (codes "can1")) (Some (codes "can0") ∷ Some (codes "can1") ∷ None ∷ []) ≡ true ∷ false ∷ true ∷ []
compared = refl

compared_first : map (may_be_compared None (codes "can1")) (Some (codes "can0") ∷ Some (codes "can1") ∷ None ∷ []) ≡ false ∷ true ∷ true ∷ []
compared_first = refl

-- before the first frame of any
compared_any : may_be_compared None [] (Some (codes "can0")) ≡ true
compared_any = refl

may_have : map (may_have_frame None (codes "can0")) (codes " " ∷ codes "; 5" ∷ codes "(1.500000) can1 705#7" ∷ codes "(1.500000) can0 705#7" ∷ codes "000#0105" ∷ []) ≡ false ∷ false ∷ false ∷ true ∷ true ∷ []
unfolding logs_on_lines has_no_frame interface_in is_alone
may_have = refl

-- ---- in a text

-- 0 for a bad line
abbrev number : LineRead → ℕ
number (FrameIn n frame) = n
number (BadLine name) = 0

-- a line of blanks, a comment after one, bad lines of two interfaces, and one of any
abbrev text : List ℕ
text = codes "(1.000000) can0 705#00\n \n # 5\n(2.000000) can0 705#7\n(2.500000) can1 705#7\n000#0105\n(3.000000) can0 705#7F\n"

all_lines : map number (read_of_text Candump text) ≡ 1 ∷ 0 ∷ 0 ∷ 0 ∷ 7 ∷ []
unfolding logs_on_lines line_at read_of_lines has_no_frame interface_in is_alone
all_lines = refl

first_interface : map number (compared_frames None Candump text) ≡ 1 ∷ 0 ∷ 0 ∷ 7 ∷ []
unfolding logs_on_lines line_at read_of_lines has_no_frame interface_in is_alone
first_interface = refl

other_interface : map number (compared_frames (Some (codes "can1")) Candump text) ≡ 0 ∷ 0 ∷ []
unfolding logs_on_lines line_at read_of_lines has_no_frame interface_in is_alone
other_interface = refl

-- in a log of another form
asc_lines : map number (read_of_text (Asc asc_of_old) (codes "// 5\n; 5\n # 5\n0.5 1 705 Rx x 1 00\n")) ≡ 0 ∷ []
unfolding logs_on_lines line_at read_of_lines has_no_frame interface_in is_alone
asc_lines = refl

screen_lines : map number (read_of_text Screen (codes " ; 5\n // 5\n can1 705 [9] 00\n")) ≡ 0 ∷ []
unfolding logs_on_lines line_at read_of_lines has_no_frame interface_in is_alone
screen_lines = refl

-- a bad line names the interface of the frames, another one, or none
on : IsOn (codes "can0") (BadLine (Some (codes "can0")))
on = refl

on_any : IsOn (codes "can0") (BadLine None)
on_any = tt

-- ---- how often the recording begins anew

module _ (subject : Subject) where
  abbrev before : Comparing
  before = nothing_compared subject None

  -- a frame came
  abbrev after : Comparing → ℕ → Comparing
  after comparing micros = record comparing { progress = record comparing.progress { newest = Some micros } }

  abbrev how_often : Comparing → ℕ
  how_often comparing = begun_anew comparing.progress.newest comparing.breaks

  -- before the first frame, and after the last one
  not_anew : map how_often (before ∷ bad_noted before ∷ after (bad_noted before) 5 ∷ bad_noted (after before 5) ∷ []) ≡ 0 ∷ 0 ∷ 0 ∷ 0 ∷ []
  not_anew = refl

  -- two bad lines after one another count once
  anew : map how_often (after (bad_noted (after before 5)) 6 ∷ after (bad_noted (bad_noted (after before 5))) 6 ∷ after (bad_noted (after (bad_noted (after before 5)) 6)) 7 ∷ []) ≡ 1 ∷ 1 ∷ 2 ∷ []
  anew = refl

  -- not one that can't have had a frame
  counted_alone : how_often (after (bad_counted (after before 5)) 6) ≡ 0
  counted_alone = refl
