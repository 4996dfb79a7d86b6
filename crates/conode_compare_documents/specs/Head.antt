-- The beginning of the page: how the comparison ended.
use Rattle.std.specs.Prelude.{ℕ, ◌+◌, ◌-◌, ◌^◌, ◌==◌, min, if◌then◌else◌, List, [], ◌∷◌, ◌++◌, length, codes, decimal}
use Rattle.std.specs.List.{concat}
use Rattle.conode_compare_report.specs.Abouts.{Described}
use Rattle.conode_compare_report.specs.Views.{Kept}
use Rattle.conode_json.specs.Escapes.{escaped}
use Rattle.conode_compare_report.specs.declared.outcome.Outcome.{Outcome}
use Rattle.conode_compare_report.specs.declared.outcome.Outcome.TheVariants.{NoDifference, Differences, NoFrame, SeveralInterfaces}
use Rattle.conode_compare_documents.specs.declared.head.TheConstants.{OPENING}
use Rattle.conode_compare_documents.specs.declared.style.TheConstants.{STYLE}

-- how many differences there are, listed or not
abbrev pub difference_count : Kept → ℕ
difference_count report = min (length report.noted + report.unlisted) (2 ^ 64 - 1)

-- how a comparison ended, with so many differences: the number, and the words after it
abbrev pub headline_number : Outcome → ℕ → List ℕ
headline_number Differences count = decimal count
headline_number _ count = []

abbrev pub headline_words : Outcome → ℕ → List ℕ
headline_words NoDifference count = codes "No difference"
headline_words Differences count = if count == 1 then codes " difference" else codes " differences"
headline_words NoFrame count = codes "Not compared"
headline_words SeveralInterfaces count = codes "Not compared"

-- the class of its colour
abbrev pub outcome_class : Outcome → List ℕ
outcome_class NoDifference = codes "good"
outcome_class Differences = codes "bad"
outcome_class NoFrame = codes "open"
outcome_class SeveralInterfaces = codes "open"

-- why nothing was compared
abbrev pub reason : Outcome → List ℕ
reason NoDifference = []
reason Differences = []
reason NoFrame = codes "<p>It has no frame of this node.</p>\n"
reason SeveralInterfaces =
    codes "<p>It has frames of several interfaces: name one with <code>--interface</code>.</p>\n"

-- the parts from the recording's name in the title to the headline in the body
abbrev pub title_end : List ℕ → List ℕ → List (List ℕ)
title_end recording class =
    codes ": " ∷ escaped recording ∷ codes "</title>\n<style>\n" ∷ STYLE.now
    ∷ codes "</style>\n</head>\n<body>\n<header class=\"" ∷ class ∷ codes "\">\n<h1>" ∷ []

-- what was compared with what, why nothing was, and how many frames of the device have which verdict
abbrev pub compared : Described → List ℕ → List (List ℕ)
compared about why =
    codes "</h1>\n<p>Node " ∷ decimal about.node ∷ codes " in <code>" ∷ escaped about.recording
    ∷ codes "</code>, against its data sheet <code>" ∷ escaped about.sheet ∷ codes "</code> and CiA 301</p>\n" ∷ why
    ∷ codes "<dl class=\"counts\">\n<div><dt>frames as prescribed</dt><dd>" ∷ decimal about.tally.prescribed
    ∷ codes "</dd></div>\n<div><dt>with a difference</dt><dd>" ∷ decimal about.tally.different
    ∷ codes "</dd></div>\n<div><dt>unjudged</dt><dd>" ∷ decimal about.tally.unjudged ∷ codes "</dd></div>\n</dl>\n</header>\n" ∷ []

-- up to the page's first section, with the number and the words of the headline, the class of its colour, and why nothing was
-- compared: the headline is the title's begin, and stands first in the body
unfoldable pub head : Described → List ℕ → List ℕ → List ℕ → List ℕ → List ℕ
head about number words class why = concat (
    OPENING.now ∷ number ∷ words ∷ title_end about.recording class ++ number ∷ words ∷ compared about why)

-- by how the comparison ended
abbrev pub head_of : Described → Outcome → ℕ → List ℕ
head_of about outcome count =
    head about (headline_number outcome count) (headline_words outcome count) (outcome_class outcome) (reason outcome)
