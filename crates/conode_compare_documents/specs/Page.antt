-- The page.
use Rattle.std.specs.Prelude.{ℕ, List, ◌++◌}
use Rattle.conode_compare_report.specs.Abouts.{Described}
use Rattle.conode_compare_report.specs.Outcomes.{outcome_of}
use Rattle.conode_compare_report.specs.Views.{Kept}
use Rattle.conode_compare_documents.specs.Coverage.{tested}
use Rattle.conode_compare_documents.specs.Device.{device, foot}
use Rattle.conode_compare_documents.specs.Differences.{differences}
use Rattle.conode_compare_documents.specs.Head.{difference_count, head_of}
use Rattle.conode_compare_documents.specs.Picture.{picture}

-- one document of HTML that is XML too: the verdict first, how it was made last
unfoldable pub page : Described → Kept → List ℕ
page about report =
    head_of about (outcome_of about) (difference_count report) ++ device about report ++ differences report ++ picture report
    ++ tested about report ++ foot about
