-- Members, evaluated, on both sides of each edge.
use Rattle.std.proofs.Common.{◌≡◌, true, [], ◌∷◌, ◌++◌, Some, None, refl, pos, negsuc}
use Rattle.std.specs.Prelude.{codes}
use Rattle.std.specs.Fmt.{digits}
use Rattle.json.specs.Token.{begin_array, begin_object, boolean, end_array, key, number, string}
use Rattle.conode_json.specs.Members.{array_begin, count_member, flag_member, number_if, number_member, number_token, numbers_member, object_begin, text_member}

-- ---- numbers: up to 2^53 - 1 in magnitude, and past it

greatest : number_token (pos 9007199254740991) ≡ number (codes "9007199254740991")
unfolding digits
greatest = refl

past_greatest : number_token (pos 9007199254740992) ≡ string (codes "9007199254740992")
unfolding digits
past_greatest = refl

least : number_token (negsuc 9007199254740990) ≡ number (codes "-9007199254740991")
unfolding digits
least = refl

past_least : number_token (negsuc 9007199254740991) ≡ string (codes "-9007199254740992")
unfolding digits
past_least = refl

some_number : number_if (codes "node") (Some (pos 5)) ≡ key (codes "node") ∷ number (codes "5") ∷ []
unfolding number_member digits
some_number = refl

no_number : number_if (codes "node") None ≡ []
unfolding number_member
no_number = refl

-- ---- members

text : text_member (codes "sheet") (codes "a.eds") ≡ key (codes "sheet") ∷ string (codes "a.eds") ∷ []
unfolding text_member
text = refl

flags : flag_member (codes "read") true ≡ key (codes "read") ∷ boolean true ∷ []
unfolding flag_member
flags = refl

counts : count_member (codes "more") 0 ++ count_member (codes "more") 12 ≡ key (codes "more") ∷ number (codes "0") ∷ key (codes "more") ∷ number (codes "12") ∷ []
unfolding count_member digits
counts = refl

begun_object : object_begin (codes "frames") ≡ key (codes "frames") ∷ begin_object ∷ []
unfolding object_begin
begun_object = refl

begun_array : array_begin (codes "kinds") ≡ key (codes "kinds") ∷ begin_array ∷ []
unfolding array_begin
begun_array = refl

two_numbers : numbers_member (codes "types") (1 ∷ 254 ∷ []) ≡ key (codes "types") ∷ begin_array ∷ number (codes "1") ∷ number (codes "254") ∷ end_array ∷ []
unfolding numbers_member digits
two_numbers = refl
