-- The bits that are counted are those of the definitions.
use Rattle.std.proofs.Common.{ℕ, ◌+◌, List, [], ◌∷◌, ◌≡◌, ◌∙◌, ap, sym, refl}
use Rattle.std.specs.List.{sum_by}
use Rattle.std.proofs.lemmas.List.Sums.{sum_by-cons}
use Rattle.conode_record.specs.declared.line.Record.{Record}
use Rattle.conode_stats_counts.specs.declared.load.Load.{Load}
use Rattle.conode_stats_counts.specs.declared.load.Second.{Second}
use Rattle.conode_stats_counts.specs.Gaps.{counted}
use Rattle.conode_stats_counts.specs.Loads.{busiest_second, frame_size, load_of, load_with, newest_second, second_of, unknown}
use Rattle.conode_stats_counts.proofs.Tallied.{counted_more}

pub none : load_of [] ≡ record {
  bits = 0;
  most = 0;
  unknown = 0;
  now = record { second = 0; bits = 0; most = 0 };
  busiest = record { second = 0; bits = 0; most = 0 };
}
unfolding load_of newest_second busiest_second
none = refl

same_load : (bits bits' most most' other other' : ℕ) (now busiest : Second) → bits ≡ bits' → most ≡ most' → other ≡ other'
    → ◌≡◌ {A = Load}
    (record { bits = bits; most = most; unknown = other; now = now; busiest = busiest })
    (record { bits = bits'; most = most'; unknown = other'; now = now; busiest = busiest })
same_load bits bits' most most' other other' now busiest e f g = cc

module _ (frames : List Record) (frame : Record) where
  more : (h : Record → ℕ) → counted (counted (sum_by h frames) + h frame) ≡ counted (sum_by h (frame ∷ frames))
  more h = counted_more (sum_by h frames) (h frame) ∙ ap counted (sym (sum_by-cons h frame frames))

  pub one_more : load_with (load_of frames) (second_of frame) (frame_size frame) ≡ load_of (frame ∷ frames)
  unfolding load_with load_of newest_second busiest_second
  one_more = same_load _ _ _ _ _ _ _ _ (more (λ f. (frame_size f).bits)) (more (λ f. (frame_size f).most)) (more unknown)
