-- A sheet that is accepted, and the lines of its changes.
use Rattle.std.proofs.Common.{◌≡◌, Bool, true, ℕ, List, refl, sym, ◌∙◌, ap, subst}
use Rattle.std.specs.Prelude.{Option, Some, None, is_none, ◌&&◌, not}
use Rattle.co_sheet.specs.Accepted.{first_fault}
use Rattle.co_sheet_changes.specs.Pieces.{Piece}
use Rattle.co_sheet_changes.specs.Requested.{Request, has_changes, requested_pieces, requested_text}
use Rattle.co_sheet_adapt.specs.Adapted.{adapted_text, pieces_in}
use Rattle.conode_adapt.specs.Written.{Orders, by_line, changes_in, changes_of, force_request, forced_pieces, forced_text, read_pieces, read_text, sheet_of, stays_in, zeros_request}

none_of : {A : Type 0} (o : Option A) → is_none o ≡ true → o ≡ None
none_of None e = refl
none_of (Some x) e = cc

-- what is accepted under one name is so under the other
pub accepted_sheet : (made sheet : List ℕ) (is : Bool) → made ≡ sheet → is ≡ is_none (first_fault made) → is ≡ true → first_fault sheet ≡ None
accepted_sheet made sheet is same says e =
    subst (λ (s : List ℕ). first_fault s ≡ None) same (none_of (first_fault made) (sym says ∙ e))

-- a text after both requests
pub read_same : (orders : Orders) (text read : List ℕ) (zeros : Option Request) → zeros ≡ zeros_request orders → read ≡ requested_text zeros text → read ≡ read_text orders text
unfolding read_text
read_same orders text read zeros same e = e ∙ ap (λ (r : Option Request). requested_text r text) same

pub forced_same : (orders : Orders) (text read forced : List ℕ) (more : Option Request) → more ≡ force_request orders → read ≡ read_text orders text → forced ≡ requested_text more read → forced ≡ forced_text orders text
unfolding forced_text
forced_same orders text read forced more same e f =
    f ∙ ap (λ (r : Option Request). requested_text r read) same ∙ ap (requested_text (force_request orders)) e

pub read_pieces_same : (orders : Orders) (text : List ℕ) (pieces : List Piece) (zeros : Option Request) → zeros ≡ zeros_request orders → pieces ≡ requested_pieces zeros text → pieces ≡ read_pieces orders text
unfolding read_pieces
read_pieces_same orders text pieces zeros same e = e ∙ ap (λ (r : Option Request). requested_pieces r text) same

pub forced_pieces_same : (orders : Orders) (text read : List ℕ) (pieces : List Piece) (more : Option Request) → more ≡ force_request orders → read ≡ read_text orders text → pieces ≡ requested_pieces more read → pieces ≡ forced_pieces orders text
unfolding forced_pieces
forced_pieces_same orders text read pieces more same e f =
    f ∙ ap (λ (r : Option Request). requested_pieces r read) same ∙ ap (requested_pieces (force_request orders)) e

pub sheet_same : (version name : List ℕ) (orders : Orders) (text by forced made : List ℕ) → by ≡ by_line version name → forced ≡ forced_text orders text → made ≡ adapted_text by forced → made ≡ sheet_of version name orders text
unfolding sheet_of
sheet_same version name orders text by forced made b f e =
    e ∙ ap (λ (x : List ℕ). adapted_text x forced) b ∙ ap (adapted_text (by_line version name)) f

pub changes_same : (name : List ℕ) (orders : Orders) (text forced : List ℕ) (stays : Bool) (read more pieces : List Piece) →
    forced ≡ forced_text orders text → read ≡ read_pieces orders text → more ≡ forced_pieces orders text
    → stays ≡ stays_in (is_none (first_fault forced)) read more → pieces ≡ pieces_in forced
    → changes_in name text stays read more pieces ≡ changes_of name orders text
unfolding changes_of
changes_same name orders text forced stays read more pieces f r m s p =
    ap (λ (b : Bool). changes_in name text b read more pieces) s
    ∙ ap (λ (ps : List Piece). changes_in name text (stays_in (is_none (first_fault forced)) read more) read more ps) p
    ∙ ap (λ (t : List ℕ). changes_in name text (stays_in (is_none (first_fault t)) read more) read more (pieces_in t)) f
    ∙ ap (λ (ps : List Piece). changes_in name text (stays_in (is_none (first_fault (forced_text orders text))) ps more) ps more (pieces_in (forced_text orders text))) r
    ∙ ap (λ (ps : List Piece). changes_in name text (stays_in (is_none (first_fault (forced_text orders text))) (read_pieces orders text) ps) (read_pieces orders text) ps (pieces_in (forced_text orders text))) m

pub stays_same : (sheet : List ℕ) (stays a r f : Bool) (read more : List Piece) → stays ≡ (a && not r && not f)
    → a ≡ is_none (first_fault sheet) → r ≡ has_changes read → f ≡ has_changes more → stays ≡ stays_in (is_none (first_fault sheet)) read more
stays_same sheet stays a r f read more s ea er ef =
    s ∙ ap (λ (x : Bool). x && not r && not f) ea ∙ ap (λ (x : Bool). is_none (first_fault sheet) && not x && not f) er
    ∙ ap (λ (x : Bool). is_none (first_fault sheet) && not (has_changes read) && not x) ef
