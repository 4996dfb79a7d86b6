-- The lists that are found are those of the definitions.
use Rattle.std.proofs.Common.{◌≡◌, Bool, true, false, cond, List, [], ◌∷◌, ◌++◌, sym, ap, ◌∙◌, map}
use Rattle.std.specs.Prelude.{not}
use Rattle.co_value.specs.declared.key.Key.{Key}
use Rattle.co_dict.specs.Rows.{Contents}
use Rattle.co_dict.specs.Stores.{Description}
use Rattle.co_dict_build.specs.declared.build_fault.BuildFault.{BuildFault}
use Rattle.co_dict_build.specs.declared.build_fault.BuildFault.TheVariants.{NodeId, ValueRange}
use Rattle.co_dict_build.specs.Built.{Plan, built_description, built_contents}
use Rattle.co_dict_build.specs.BuildFaults.{is_node}
use Rattle.co_dict_faults.specs.declared.mapping_fault.MappingFault.{MappingFault}
use Rattle.co_dict_faults.specs.AllBuildFaults.{words_at_fault, parameter_faults, room_faults, build_faults_of, mapping_faults_of}
use Rattle.co_dict_faults.specs.SoundPlans.{sums_outside, sound_plan}

-- all of them
pub all_found : (plan : Plan) (outside : List Key) (d : Description) (contents : Contents) (none sums found all : List BuildFault) → is_node plan.node ≡ true
    → outside ≡ sums_outside plan.node plan.rows → d ≡ built_description (sound_plan plan) → contents ≡ built_contents (sound_plan plan)
    → none ≡ [] → sums ≡ none ++ map ValueRange outside → found ≡ sums ++ parameter_faults outside d contents → all ≡ found ++ room_faults plan
    → all ≡ build_faults_of plan
all_found plan outside d contents none sums found all node o e f n a b c =
    let values = map ValueRange outside in
    let parameters = parameter_faults outside d contents in
    let sound = sound_plan plan in
    let so_far : all ≡ values ++ parameters ++ room_faults plan =
    c ∙ ap (λ (fs : List BuildFault). fs ++ room_faults plan) (b ∙ ap (λ (fs : List BuildFault). fs ++ parameters) (a ∙ ap (λ (fs : List BuildFault). fs ++ values) n)) in
    so_far
    ∙ ap (λ (keys : List Key). map ValueRange keys ++ parameter_faults keys d contents ++ room_faults plan) o
    ∙ ap (λ (x : Description). map ValueRange (sums_outside plan.node plan.rows) ++ parameter_faults (sums_outside plan.node plan.rows) x contents ++ room_faults plan) e
    ∙ ap (λ (x : Contents). map ValueRange (sums_outside plan.node plan.rows) ++ parameter_faults (sums_outside plan.node plan.rows) (built_description sound) x ++ room_faults plan) f
    ∙ ap (λ (b : Bool). cond (not b) (NodeId ∷ []) (map ValueRange (sums_outside plan.node plan.rows)
    ++ parameter_faults (sums_outside plan.node plan.rows) (built_description sound) (built_contents sound) ++ room_faults plan)) (sym node)

pub words_found : (plan : Plan) (outside : List Key) (d : Description) (contents : Contents) (keys : List Key) (words : List MappingFault) → is_node plan.node ≡ true
    → outside ≡ sums_outside plan.node plan.rows → d ≡ built_description (sound_plan plan) → contents ≡ built_contents (sound_plan plan) → d.keys ≡ keys
    → words ≡ words_at_fault outside d contents keys → words ≡ mapping_faults_of plan
words_found plan outside d contents keys words node o e f k h =
    let sound = sound_plan plan in
    h ∙ ap (words_at_fault outside d contents) (sym k)
    ∙ ap (λ (ks : List Key). words_at_fault ks d contents d.keys) o
    ∙ ap (λ (x : Description). words_at_fault (sums_outside plan.node plan.rows) x contents x.keys) e
    ∙ ap (λ (x : Contents). words_at_fault (sums_outside plan.node plan.rows) (built_description sound) x (built_description sound).keys) f
    ∙ ap (λ (b : Bool). cond (not b) [] (words_at_fault (sums_outside plan.node plan.rows) (built_description sound) (built_contents sound) (built_description sound).keys)) (sym node)

-- without a node-ID
pub no_node : (plan : Plan) (all : List BuildFault) → is_node plan.node ≡ false → all ≡ NodeId ∷ [] → all ≡ build_faults_of plan
no_node plan all node h =
    let sound = sound_plan plan in
    h ∙ ap (λ (b : Bool). cond (not b) (NodeId ∷ []) (map ValueRange (sums_outside plan.node plan.rows)
    ++ parameter_faults (sums_outside plan.node plan.rows) (built_description sound) (built_contents sound) ++ room_faults plan)) (sym node)

pub no_words : (plan : Plan) (words : List MappingFault) → is_node plan.node ≡ false → words ≡ [] → words ≡ mapping_faults_of plan
no_words plan words node h =
    let sound = sound_plan plan in
    h ∙ ap (λ (b : Bool). cond (not b) [] (words_at_fault (sums_outside plan.node plan.rows) (built_description sound) (built_contents sound) (built_description sound).keys)) (sym node)
