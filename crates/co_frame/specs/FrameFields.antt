-- How the fields of a frame are seen as its content, and the content as its fields.
use Rattle.std.specs.Prelude.{◌≡◌, ◌-◌, ◌<◌, ◌≤◌, ◌++◌, length, take, drop, replicate}
use Rattle.std.proofs.Common.{refl, arith}
use Rattle.std.proofs.lemmas.List.{length-take, take-append-drop}
use Rattle.co_frame.specs.declared.frame.Frame.TheInside.{Inside}
use Rattle.co_frame.specs.FrameContent.{FrameContent}

abbrev pub content_of : Inside → FrameContent
content_of a = record { id = a.id; bytes = take a.len a.cells }

-- the cells past the length are 0
pub record IsPadded (a : Inside) : Type 0 where
  pub id : a.id < 2048
  pub len : a.len ≤ 8
  pub cells : length a.cells ≡ 8
  pub padding : drop a.len a.cells ≡ replicate (8 - a.len) 0

abbrev pub fields_of : FrameContent → Inside
fields_of c = record { id = c.id; len = length c.bytes; cells = c.bytes ++ replicate (8 - length c.bytes) 0 }

pub fields_of-content_of : (a : Inside) → IsPadded a → fields_of (content_of a) ≡ a
fields_of-content_of a h =
    let few : length (take a.len a.cells) ≡ a.len = grind (arith, length-take) in
    let whole : take a.len a.cells ++ replicate (8 - length (take a.len a.cells)) 0 ≡ a.cells = rw (few, ← h.padding) (take-append-drop a.len a.cells) in
    rw (whole, few) refl
