-- What is said of a frame of a transfer.
use Rattle.std.specs.Prelude.{ℕ, List, [], ◌∷◌, ◌++◌, codes, decimal, Option, Some, None}
use Rattle.co_value.specs.declared.key.Key.{Key}
use Rattle.conode_text.specs.Filled.{filled}
use Rattle.conode_explain_transfers.specs.declared.kinds.Side.{Side}
use Rattle.conode_explain_transfers.specs.declared.kinds.Side.TheVariants.{Client, Server}
use Rattle.conode_explain_transfers.specs.declared.kinds.What.{What}
use Rattle.conode_explain_transfers.specs.declared.kinds.What.TheVariants.{Segment, OutOfSequence, LastAgain, Repeated, Overtaken, Unexpected, Stray, BegunBefore}
use Rattle.conode_explain_entries.specs.Ends.{entry_text}

-- ---- segments of sub-blocks, whose bytes alone don't show what they are

abbrev pub segment_number : What → Option ℕ
segment_number (Segment number) = Some number
segment_number (OutOfSequence number awaited) = Some number
segment_number (LastAgain number) = Some number
segment_number _ = None

unfoldable pub service_text : Side → List ℕ
service_text Client = codes "SDO request node "
service_text Server = codes "SDO answer node "

-- two numbers with words before and between them
unfoldable pub numbers_text : List ℕ → ℕ → List ℕ → ℕ → List ℕ
numbers_text front first middle second = front ++ decimal first ++ middle ++ decimal second

abbrev pub segment_text : Side → ℕ → ℕ → List ℕ
segment_text side node number = numbers_text (service_text side) node (codes " block segment ") number

-- ---- what follows the text of a frame

-- the entry that it is of, where its text has no key
unfoldable pub of_text : Option Key → List ℕ → List ℕ
of_text None name = []
of_text (Some key) name = codes " of " ++ entry_text key name

-- what is odd about it
unfoldable pub remark_words : What → List ℕ
remark_words (LastAgain number) = codes " (repeated)"
remark_words Repeated = codes " (repeated)"
remark_words Overtaken = codes " (overtaken)"
remark_words Unexpected = codes " (unexpected)"
remark_words Stray = codes " (no transfer is open)"
remark_words BegunBefore = codes " (its begin isn't in the recording)"
remark_words _ = []

unfoldable pub awaited_text : ℕ → List ℕ
awaited_text number = filled (codes " (% is awaited)") (decimal number ∷ [])

abbrev pub remark_text : What → List ℕ
remark_text (OutOfSequence number awaited) = awaited_text awaited
remark_text what = remark_words what

unfoldable pub after_text : What → Option Key → List ℕ → List ℕ
after_text what of name = of_text of name ++ remark_text what
