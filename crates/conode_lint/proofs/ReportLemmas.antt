-- How a document begins and ends.
use Rattle.std.proofs.Common.{◌≡◌, ◌∙◌, ℕ, List, [], ◌∷◌, ◌++◌, Option, Some, None, Result, Ok, Err, IfOk, refl, sym, ap, subst}
use Rattle.std.specs.Prelude.{option_map}
use Rattle.json.specs.Print.{print}
use Rattle.json.specs.Token.{Token}
use Rattle.conode_text.specs.Appended.{Appended}
use Rattle.conode_lint_text.specs.JsonForm.{document_head}
use Rattle.conode_lint.specs.declared.report.Form.{Form}
use Rattle.conode_lint.specs.declared.report.Form.TheVariants.{Json}
use Rattle.conode_lint.specs.Reports.{GrowsByHead, ended_by}

pub begun_json : (form : Form) (version : List ℕ) (old new : Option (List Token)) → form ≡ Json → Appended old document_head new → GrowsByHead form version old new
begun_json form version old new is added =
    subst (λ (f : Form). GrowsByHead f version old new) (sym is) (λ all whole. (document_head, refl, added.whole all whole))

ended_with : (end : List Token) (bytes : List ℕ) (old new : Option (List Token)) → Appended old end new → option_map (λ tokens. print tokens ++ 10 ∷ []) new ≡ Some bytes → Some bytes ≡ ended_by end old
ended_with end bytes old None added is = absurd cc
ended_with end bytes None (Some all) added is = let none : None ≡ Some all = added.whole all refl in absurd cc
ended_with end bytes (Some tokens) (Some all) added is =
    sym is ∙ sym (ap (option_map (λ (l : List Token). print l ++ 10 ∷ [])) (added.whole all refl))

pub ended : {A E : Type 0} (r : Result A E) (bytes_of : A → List ℕ) (end : List Token) (old new : Option (List Token)) → Appended old end new → IfOk r (λ text. option_map (λ tokens. print tokens ++ 10 ∷ []) new ≡ Some (bytes_of text))
    → IfOk r (λ text. Some (bytes_of text) ≡ ended_by end old)
ended (Ok text) bytes_of end old new added is = ended_with end (bytes_of text) old new added is
ended (Err fault) bytes_of end old new added is = tt
