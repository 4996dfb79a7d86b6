use Rattle.std.proofs.Common.{map}
use Rattle.co_sheet_text_warnings.specs.Infos.{lacks_any}
use Rattle.co_sheet_text_warnings.specs.Views.{key_view}
use Rattle.co_sheet_text_warnings.proofs.PieceLemmas.{search-end}
use Rattle.co_sheet_text_warnings.proofs.infos.lacks_any.Goals as goal

pub returns : goal.returns
returns c = search-end (lacks_any c.args.info (map key_view c.args.keys.now)) c.args.required.now c.loop-known.known-index _ c.loop-known-test.false c.loop-known.invariant
