-- What was found and in which file, the region, and the end.
use Rattle.std.proofs.Common.{◌∙◌, List, [], ◌∷◌, ◌++◌, Option, ap, append_assoc, subst, sym}
use Rattle.json.specs.Token.{Token, end_array, end_object}
use Rattle.conode_json.specs.Members.{array_begin, object_begin, text_member}
use Rattle.conode_text.specs.Appended.{Appended}
use Rattle.conode_text.proofs.Appending.{both}
use Rattle.conode_lint_text.specs.SarifForm.{region_members, result_end, result_tokens}
use Rattle.conode_lint_text.proofs.sarif_form.put_result.Goals as goal

-- the ends of the place, of the location and of the locations, each by itself
apart : {t u : Option (List Token)} (region rest : List Token) → Appended t (region ++ (end_object ∷ end_object ∷ end_array ∷ rest)) u
    → Appended t (((region ++ (end_object ∷ end_object ∷ [])) ++ (end_array ∷ [])) ++ rest) u
apart {t = t} {u = u} region rest h =
    subst (λ (l : List Token). Appended t l u)
    (sym (ap (λ (l : List Token). l ++ rest) (append_assoc region (end_object ∷ end_object ∷ []) (end_array ∷ [])) ∙ append_assoc region (end_object ∷ end_object ∷ end_array ∷ []) rest)) h

pub returns : goal.returns
unfolding result_tokens array_begin object_begin text_member
returns c =
    both c.put.ensures (apart (region_members c.args.finding.now) (result_end c.args.finding.now) (both c.put_region.ensures c.end_result.ensures))
