use Rattle.std.proofs.Common.{◌∙◌, ◌++◌, ◌∷◌, [], List, sym, ap}
use Rattle.std.proofs.lemmas.List.{length-append}
use Rattle.co_sheet_text.specs.declared.header.Header.{Header}
use Rattle.co_sheet_text.specs.Cuts.{cut}
use Rattle.co_sheet_text.specs.OpenSections.{own_properties, earlier_properties}
use Rattle.co_sheet_text.proofs.CutLemmas.{count-append}
use Rattle.co_sheet_text.proofs.SectionsKeptLemmas.{kept_some, whole_cut, earlier_count}
use Rattle.co_sheet_text.proofs.sections_read.SectionsRead.into_text.Goals as goal

pub invariant_of-result-2 : goal.invariant_of-result-2
invariant_of-result-2 c =
    let s = c.args.self in
    let whole = c.in-Some.section in
    let earlier = earlier_count s.closed.items whole (s.counted whole c.in-Some.is) in
    rw (c.in_ok-push.ensures.items, c.into_properties.ensures, count-append s.closed.items c.header.result, earlier, c.header.ensures.count) (sym (length-append (earlier_properties whole) (own_properties whole)))

pub returns : goal.returns
returns c =
    let s = c.args.self in
    let whole = c.in-Some.section in
    let earlier = earlier_count s.closed.items whole (s.counted whole c.in-Some.is) in
    ap (λ (hs : List Header). cut hs c.into_properties.result.items) c.in_ok-push.ensures.items
    ∙ ap (cut (s.closed.items ++ c.header.result ∷ [])) c.into_properties.ensures
    ∙ whole_cut s.closed.items c.header.result whole earlier c.header.ensures.count c.header.ensures.whole
    ∙ sym (kept_some s.closed.items s.current whole c.in-Some.is)
