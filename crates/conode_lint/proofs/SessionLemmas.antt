-- What is taken, one after another, and the report on it.
use Rattle.std.proofs.Common.{◌≡◌, ◌∙◌, ℕ, List, [], ◌∷◌, ◌++◌, Option, Some, None, Result, Ok, IfOk, inl, inr, refl, sym, ap, subst, append-nil}
use Rattle.std.specs.Prelude.{◌⊎◌, Contains, false, map, fold, option_map, string_bytes}
use Rattle.std.specs.List.{flat_map}
use Rattle.std.specs.Io.KnownBytes.{Appends, Keeps}
use Rattle.std.proofs.KnownBytes.{Appends-kept, Appends-nil, Appends-trans}
use Rattle.std.proofs.lemmas.Grind.{flat_map-append}
use Rattle.std.proofs.lemmas.List.Elements.{All-nil, All-cons, All-append}
use Rattle.std.proofs.lemmas.List.Sums.{fold-append}
use Rattle.json.specs.Token.{Token}
use Rattle.conode_io.specs.declared.ending.Ending.{Ending}
use Rattle.conode_io.specs.declared.ending.Ending.TheVariants.{Said, Unsaid}
use Rattle.conode_io.specs.declared.fault.CmdFault.{CmdFault}
use Rattle.conode_io.specs.Endings.{ending_status}
use Rattle.conode_text.specs.Appended.{Appended}
use Rattle.conode_text.proofs.Appending.{both, nothing}
use Rattle.conode_lint.specs.declared.files.LintOptions.{LintOptions}
use Rattle.conode_lint.specs.declared.files.Session.{Session}
use Rattle.conode_lint.specs.declared.marks.Checks.{Checks}
use Rattle.conode_lint.specs.declared.report.Counts.{Counts}
use Rattle.conode_lint.specs.declared.report.Form.{Form}
use Rattle.conode_lint.specs.declared.report.Form.TheVariants.{Text, Json, Sarif}
use Rattle.conode_lint.specs.declared.report.Report.{Report}
use Rattle.conode_lint.specs.Reports.{Begins, GrowsByHead, IsEmptyReport, IsHead, last_bytes}
use Rattle.conode_lint.specs.Rules.{is_known}
use Rattle.conode_lint.specs.Statuses.{lint_status}
use Rattle.conode_lint.specs.Sessions.{AddsText, Finishes, HandsOver, IsTaken, LintEnds, Lints, NamesUnknown, Taken, Takes, TakesAll, TakesOne, TakesSome, TakesText, TakesUnread, counted, lines_of, no_counts, tokens_of}

-- ---- nothing, and one after another

pub took_none : (checks : Checks) (s : Session) (held : Option (List ℕ)) → Takes checks [] s held s held
took_none checks s held = record {
  are = All-nil (IsTaken checks);
  counts = refl;
  form = refl;
  document = nothing s.report.document;
  waits = λ none. none;
  lines = λ none. Appends-nil held;
}

pub took_both : (checks : Checks) (xs ys : List Taken) (a b c : Session) (x y z : Option (List ℕ)) → Takes checks xs a x b y → Takes checks ys b y c z → Takes checks (xs ++ ys) a x c z
took_both checks xs ys a b c x y z f g = record {
  are = All-append (IsTaken checks) xs ys f.are g.are;
  counts = g.counts ∙ ap (λ (n : Counts). fold counted n ys) f.counts ∙ sym (fold-append counted a.counts xs ys);
  form = g.form ∙ f.form;
  document = subst (λ (l : List Token). Appended a.report.document l c.report.document) (sym (flat_map-append (tokens_of a.report.form) xs ys))
      (both f.document (subst (λ (form : Form). Appended b.report.document (flat_map (tokens_of form) ys) c.report.document) f.form g.document));
  waits = λ none. g.waits (f.waits none);
  lines = λ none. subst (Appends x z) (sym (flat_map-append (lines_of a.report.form) xs ys))
      (Appends-trans x y z _ _ (f.lines none) (subst (λ (form : Form). Appends y z (flat_map (lines_of form) ys)) f.form (g.lines (f.waits none))));
}

pub took_more : (checks : Checks) (a b c : Session) (x y z : Option (List ℕ)) → TakesSome checks a x b y → TakesSome checks b y c z → TakesSome checks a x c z
took_more checks a b c x y z (xs, f) (ys, g) = (xs ++ ys, took_both checks xs ys a b c x y z f g)

-- ---- one

-- no line waited, and these were added
alone : (old mid lines : List ℕ) → old ≡ [] → mid ≡ old ++ lines → mid ≡ lines ++ []
alone old mid lines none is = is ∙ ap (λ (l : List ℕ). l ++ lines) none ∙ sym (append-nil lines)

pub took_text : (checks : Checks) (name text : List ℕ) (old mid new : Session) (before after : Option (List ℕ)) → AddsText checks name text old mid → HandsOver mid before new after → TakesText checks name text old before new after
took_text checks name text old mid new before after added handed =
    let one : Taken = record { name = name; linted = Some added.linted } in
    let form = old.report.form in (
      added.linted,
      added.is_linted,
      record {
        are = All-cons (IsTaken checks) one [] (text, added.is_linted) (All-nil (IsTaken checks));
        counts = handed.counts ∙ added.counts;
        form = handed.form ∙ added.report.form;
        document = subst (λ (d : Option (List Token)). Appended old.report.document (flat_map (tokens_of form) (one ∷ [])) d) (sym handed.document)
            (subst (λ (l : List Token). Appended old.report.document l mid.report.document) (sym (append-nil (tokens_of form one))) added.report.document);
        waits = λ none. handed.text;
        lines = λ none. subst (Appends before after) (alone (string_bytes old.report.text) (string_bytes mid.report.text) (lines_of form one) none added.report.text) handed.written;
      },
    )

pub one_text : (checks : Checks) (name text : List ℕ) (old new : Session) (before after : Option (List ℕ)) → TakesText checks name text old before new after → TakesOne checks name old before new after
one_text checks name text old new before after (linted, is_linted, takes) = (record { name = name; linted = Some linted }, refl, takes)

pub one_unread : (checks : Checks) (name : List ℕ) (old new : Session) (held : Option (List ℕ)) → TakesUnread name old new → TakesOne checks name old held new held
one_unread checks name old new held takes = (record { name = name; linted = None }, refl, takes checks held)

pub one_more : (checks : Checks) (name : List ℕ) (a b c : Session) (x y z : Option (List ℕ)) → TakesSome checks a x b y → TakesOne checks name b y c z → TakesSome checks a x c z
one_more checks name a b c x y z (xs, f) (one, is, g) = (xs ++ one ∷ [], took_both checks xs (one ∷ []) a b c x y z f g)

pub only_one : (checks : Checks) (name : List ℕ) (old new : Session) (before after : Option (List ℕ)) → TakesOne checks name old before new after → TakesSome checks old before new after
only_one checks name old new before after (one, is, takes) = (one ∷ [], takes)

pub unread_more : (checks : Checks) (name : List ℕ) (a b c : Session) (x y : Option (List ℕ)) → TakesSome checks a x b y → TakesUnread name b c → TakesSome checks a x c y
unread_more checks name a b c x y f g = one_more checks name a b c x y y f (one_unread checks name b c y g)

-- ---- all

pub more_of_all : (options : LintOptions) (a b c : Session) (x y z : Option (List ℕ)) → TakesAll options a x b y → TakesSome options.checks b y c z → TakesAll options a x c z
more_of_all options a b c x y z (begun, begins, some) more = (begun, begins, took_more options.checks (record a { report = begun }) b c x y z some more)

pub begun_all : (options : LintOptions) (old : Session) (begun : Report) (held : Option (List ℕ)) → Begins options.version.now old.report begun → TakesAll options old held (record old { report = begun }) held
begun_all options old begun held begins = (begun, begins, ([], took_none options.checks (record old { report = begun }) held))

-- what a document has that began with nothing, and is whole
whole : (form : Form) (version : List ℕ) (begun : Option (List Token)) (part all : List Token) → GrowsByHead form version (Some []) begun → option_map (λ tokens. tokens ++ part) begun ≡ Some all
    → (head : List Token) × IsHead form version head × (head ++ part ≡ all)
whole form version None part all grows is = absurd cc
whole form version (Some first) part all grows is =
    let (head, is_head, here) = grows first refl in
    let same : head ≡ first = cc in
    let joined : first ++ part ≡ all = cc in
    (head, is_head, ap (λ (l : List Token). l ++ part) same ∙ joined)

last_of : (form : Form) (version : List ℕ) (counts : Counts) (begun new : Option (List Token)) (part : List Token) (last : List ℕ) → GrowsByHead form version (Some []) begun → Appended begun part new → Some last ≡ last_bytes form [] new counts
    → (head : List Token) × IsHead form version head × (Some last ≡ last_bytes form [] (Some (head ++ part)) counts)
last_of (Text colours) version counts begun new part last grows added is = ([], refl, is)
last_of Json version counts begun None part last grows added is = absurd cc
last_of Json version counts begun (Some all) part last grows added is =
    let (head, is_head, same) = whole Json version begun part all grows (added.whole all refl) in
    (head, is_head, is ∙ ap (λ (l : List Token). last_bytes Json [] (Some l) counts) (sym same))
last_of Sarif version counts begun None part last grows added is = absurd cc
last_of Sarif version counts begun (Some all) part last grows added is =
    let (head, is_head, same) = whole Sarif version begun part all grows (added.whole all refl) in
    (head, is_head, is ∙ ap (λ (l : List Token). last_bytes Sarif [] (Some l) counts) (sym same))

pub linted_all : (options : LintOptions) (old new : Session) (counts : Counts) (before mid after : Option (List ℕ)) → IsEmptyReport options.form old.report → old.counts ≡ no_counts → TakesAll options old before new mid
    → Finishes new counts mid after → Lints options counts before after
linted_all options old new counts before mid after (form, text, document) none (begun, begins, (taken, takes)) ends =
    let version = options.version.now in
    let begun_form : begun.form ≡ options.form = begins.form ∙ form in
    let begun_text : string_bytes begun.text ≡ [] = begins.text ∙ text in
    let new_form : new.report.form ≡ options.form = takes.form ∙ begun_form in
    let new_text : string_bytes new.report.text ≡ [] = takes.waits begun_text in
    let grows : GrowsByHead options.form version (Some []) begun.document =
    subst (λ (f : Form). GrowsByHead f version (Some []) begun.document) form (subst (λ (d : Option (List Token)). GrowsByHead old.report.form version d begun.document) document begins.document) in
    let added : Appended begun.document (flat_map (tokens_of options.form) taken) new.report.document =
    subst (λ (f : Form). Appended begun.document (flat_map (tokens_of f) taken) new.report.document) begun_form takes.document in
    let are : Some ends.last ≡ last_bytes options.form [] new.report.document counts =
    ends.are
    ∙ ap (λ (t : List ℕ). last_bytes new.report.form t new.report.document new.counts) new_text
    ∙ ap (λ (f : Form). last_bytes f [] new.report.document new.counts) new_form
    ∙ ap (last_bytes options.form [] new.report.document) (sym ends.same) in
    let (head, is_head, last) = last_of options.form version counts begun.document new.report.document (flat_map (tokens_of options.form) taken) ends.last grows added are in
    record {
      taken = taken;
      are = takes.are;
      count = ends.same ∙ takes.counts ∙ ap (λ (n : Counts). fold counted n taken) none;
      bytes = flat_map (lines_of options.form) taken ++ ends.last;
      report = (head, is_head, ends.last, last, refl);
      written = Appends-trans before mid after _ _ (subst (λ (f : Form). Appends before mid (flat_map (lines_of f) taken)) begun_form (takes.lines begun_text)) ends.written;
    }

-- ---- the status

-- what was flushed is all there
pub whole_ends : (options : LintOptions) (outcome : Result Counts CmdFault) (counts : Counts) (code status : ℕ) (before mid after : Option (List ℕ)) → IfOk outcome (λ made. Lints options made before mid) → outcome ≡ Ok counts → Keeps mid after
    → status ≡ code → code ≡ lint_status counts options.strict → LintEnds options status before after
whole_ends options outcome counts code status before mid after made is keeps exits same =
    let lints : Lints options counts before mid = subst (λ (r : Result Counts CmdFault). IfOk r (λ some. Lints options some before mid)) is made in
    inl (
      counts,
      record {
        taken = lints.taken;
        are = lints.are;
        count = lints.count;
        bytes = lints.bytes;
        report = lints.report;
        written = Appends-kept before mid after lints.bytes lints.written keeps;
      },
      exits ∙ same,
    )

pub stopped_status : (ending : Ending) (fault : CmdFault) (status : ℕ) → (ending ≡ Said fault) ⊎ (ending ≡ Unsaid fault) → status ≡ ending_status ending → status ≡ 1
stopped_status ending fault status (inl said) is = is ∙ ap ending_status said
stopped_status ending fault status (inr unsaid) is = is ∙ ap ending_status unsaid

pub unknown_ends : (options : LintOptions) (name : List ℕ) (status : ℕ) (before after : Option (List ℕ)) → Contains (map (λ one. one.now) options.checks.allowed.now) name → is_known name ≡ false → NamesUnknown status → LintEnds options status before after
unknown_ends options name status before after among unknown (inl one) = inr (inl one)
unknown_ends options name status before after among unknown (inr two) = inr (inr (two, name, among, unknown))
