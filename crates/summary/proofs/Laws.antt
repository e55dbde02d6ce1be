-- The summary by levels: its parts, the room that they have, and that on right levels it is the rule's node.
use Prim.Native.Nat.{ℕ, zero, suc, ◌+◌, ◌-◌, ◌*◌, ◌/◌, ◌%◌, ◌≤◌, ◌<◌, min}
use mathlib.Core.Path.{◌≡◌, refl, sym, ap, ap₂, ◌∙◌, subst}
use mathlib.Core.Bool.{Bool, true, false, cond}
use mathlib.Core.List.{List}
use mathlib.Core.Logic.{◌⊎◌, inl, inr}
use Rattle.std.specs.Prelude.{None, Some}
use native.Mathlib.Nat.{mul-le-mul_right, le-div_iff_mul-le, lt_of_mul-lt-mul_right, lt-div-mul-add, div-add-mod', mul-div_cancel, div-le_self}
use native.Mathlib.Decide.{dec_lt}
use native.Mathlib.Omega.{arith}
use lib.Dec.{ltb, leb}
use lib.ListN.{length}
use borrow.Author.Tests.{le-ltb, le-leb, lt-leb}
use Rattle.rules.specs.Node.{Node, node_of, span, top_level}
use Rattle.rules.specs.Search.{summary}
use Rattle.rules.specs.Refusal.{node_size, most_samples}
use Rattle.rules.proofs.Walk.{span_pos, best_le, best_taken}
use Rattle.node.specs.Memory.{node_in, Right}
use Rattle.node.specs.Told.{Told}
use Rattle.node.proofs.Told.{told_on}
use Rattle.level.specs.Best.{fits_at, Best}
use Rattle.level.proofs.Best.{Fits, fits_sample, fitting}
use Rattle.range.specs.Part.{NodesIn}
use Rattle.range.specs.Join.{join_over}
use Rattle.range.proofs.Right.{join_true}
use Rattle.capture.specs.Backed.{Nodes}
use Rattle.summary.specs.Summary.{level_at, run_end, part_node, step_node, step_end, chunk_node, Part, cut_at, by_levels, summed, summary_of}
use Rattle.summary.proofs.Gather.{Step, joined_node}

-- ---- a run of nodes of w samples from p on
module _ (w p b : ℕ) (hw : 1 ≤ w) (aligned : p % w ≡ 0) (fits : w ≤ b - p) (h : p < b) where
  at_border : p / w * w ≡ p
  at_border = omega (arith, div-add-mod' p w)

  pub run_more : p < run_end w p b
  run_more = omega (arith, lt-div-mul-add {a = p} {b = 32 * w} (omega arith), mul-le-mul_right {m = p / w + 1} {n = b / w} w ((le-div_iff_mul-le {k = w} {x = p / w + 1} {y = b} hw).1 (omega (arith, at_border))), at_border)

  pub run_upto : run_end w p b ≤ b
  run_upto = omega (arith, div-add-mod' b w)

  -- its end is a border too
  pub run_border : run_end w p b / w * w ≡ run_end w p b
  run_border = go (dec_lt ((p / (32 * w) + 1) * (32 * w)) (b / w * w))
    where
      whole : (e k : ℕ) → e ≡ k * w → e / w * w ≡ e
      whole e k q = ap (λ (x : ℕ). x / w * w) q ∙ ap (λ (x : ℕ). x * w) (mul-div_cancel k {n = w} hw) ∙ sym q

      go : Dec ((p / (32 * w) + 1) * (32 * w) < b / w * w) → run_end w p b / w * w ≡ run_end w p b
      go (yes d) = whole (run_end w p b) ((p / (32 * w) + 1) * 32) (omega arith)
      go (no d) = whole (run_end w p b) (b / w) (omega arith)

  pub run_numbers : p / w < run_end w p b / w
  run_numbers = lt_of_mul-lt-mul_right w {m = p / w} {n = run_end w p b / w} (omega (arith, at_border, run_border, run_more))

-- ---- the parts within a chunk
-- the level that is taken fits
level_fits : (p b : ℕ) → p < b → Fits p (b - p) (level_at p b)
level_fits p b h = go (best_taken (fits_at p (b - p)) top_level)
  where
    go : (level_at p b ≡ 0) ⊎ (fits_at p (b - p) (level_at p b) ≡ true) → Fits p (b - p) (level_at p b)
    go (inl z) = subst (Fits p (b - p)) (sym z) (fits_sample p (b - p) (omega arith))
    go (inr t) = fitting p (b - p) (level_at p b) t

end_more : (p b : ℕ) → p < b → p < step_end p b
end_more p b h = let f = level_fits p b h in run_more (span (level_at p b)) p b (span_pos (level_at p b)) f.aligned f.small h

end_upto : (p b : ℕ) → p < b → step_end p b ≤ b
end_upto p b h = let f = level_fits p b h in run_upto (span (level_at p b)) p b (span_pos (level_at p b)) f.aligned f.small h

-- the code's part at p: it takes level l, whose nodes are w wide, and ends at `end`
module _ (p b l w end : ℕ) (h : p < b) (t : Best p (b - p) top_level l) (ew : w ≡ span l) (ee : end ≡ run_end w p b) where
  end_is : end ≡ step_end p b
  end_is = ee ∙ ap (λ (x : ℕ). run_end x p b) (ew ∙ ap span t.is)

  pub end_inside : (p < end) × (end ≤ b)
  end_inside = (omega (arith, end_is, end_more p b h), omega (arith, end_is, end_upto p b h))

  -- its nodes lie in their level
  pub piece_room : (levels : ℕ → List ℕ) → (l ≡ 0 → ⊥) → (len : ℕ) → b ≤ len → len ≤ most_samples → Nodes len levels → (level : List ℕ) → level ≡ levels l → (p / w < end / w) × NodesIn (p / w) (end / w) (length level)
  piece_room levels z len inner most nodes level el = (
    first,
    record {
      few = omega (arith, div-le_self end w, end_inside.1);
      room = subst (λ (x : List ℕ). end / w * node_size ≤ length x) (sym el) (omega (arith, first, nodes.inside l (end / w - 1) (omega arith) t.below inside));
    },
  )
    where
      hw : 1 ≤ w
      hw = omega (arith, ew, span_pos l)

      al : p % w ≡ 0
      al = subst (λ (x : ℕ). p % x ≡ 0) (sym ew) t.aligned

      fi : w ≤ b - p
      fi = omega (arith, ew, t.fits)

      border : end / w * w ≡ end
      border = subst (λ (x : ℕ). x / w * w ≡ x) (sym ee) (run_border w p b hw al fi h)

      first : p / w < end / w
      first = subst (λ (x : ℕ). p / w < x / w) (sym ee) (run_numbers w p b hw al fi h)

      inside : (end / w - 1) * span l < len
      inside = subst (λ (x : ℕ). (end / w - 1) * x < len) ew (omega (arith, border, hw, first, ee, run_upto w p b hw al fi h, mul-le-mul_right {m = end / w - 1 + 1} {n = end / w} w (omega (arith, first))))

  module _ (levels : ℕ → List ℕ) (s : ℕ → ℕ) (c : Bool) (n : Node) where
    part_of_lem : Told c n (part_node levels s l p end) → Part levels s c p b n end
    part_of_lem e = record {
      node_is = told_on c n (part_node levels s l p end) (step_node levels s p b) e (ap₂ (λ (x y : ℕ). part_node levels s x p y) t.is end_is);
      end_is = end_is;
      more = end_inside.0;
      upto = end_inside.1;
    }

    -- what the code makes is the part: of level 0, and of a level above
    pub part_run : l ≡ 0 → Told c n (node_of s p end) → Part levels s c p b n end
    unfolding part_node
    part_run z e = part_of_lem (told_on c n (node_of s p end) (part_node levels s l p end) e (ap (λ (k : ℕ). part_node levels s k p end) (sym z)))

    pub part_level : (l ≡ 0 → ⊥) → (level : List ℕ) → level ≡ levels l → Told c n (join_over (node_in level) (p / w) (end / w - 1 - p / w)) → Part levels s c p b n end
    unfolding part_node
    part_level z level el e = part_of_lem (told_on c n (join_over (node_in level) (p / w) (end / w - 1 - p / w)) (part_node levels s l p end) e (ap₂ (λ (x : List ℕ) (y : ℕ). join_over (node_in x) (p / y) (end / y - 1 - p / y)) el ew ∙ go l z))
      where
        go : (l : ℕ) → (l ≡ 0 → ⊥) → join_over (node_in (levels l)) (p / span l) (end / span l - 1 - p / span l) ≡ part_node levels s l p end
        go zero z = absurd (z refl)
        go (suc l) z = refl

-- ---- a range, by its samples or by the levels
module _ (levels : ℕ → List ℕ) (s : ℕ → ℕ) (a b : ℕ) (c : Bool) (n : Node) where
  pub summed_short : b - a ≤ 64 → Told c n (node_of s a b) → Told c n (summed levels s a b)
  unfolding summed
  summed_short h e = rw (le-leb (b - a) 64 h) e

  pub summed_long : 64 < b - a → Told c n (by_levels levels s a b) → Told c n (summed levels s a b)
  unfolding summed
  summed_long h e = rw (lt-leb (b - a) 64 h) e

-- ---- true nodes
module _ (levels : ℕ → List ℕ) (s : ℕ → ℕ) (len : ℕ) (right : Right s len levels) where
  -- whole nodes a to b, joined
  run_node : (l a b : ℕ) → 1 ≤ l → l ≤ top_level → a < b → b * span l ≤ len → join_over (node_in (levels l)) a (b - 1 - a) ≡ node_of s (a * span l) (b * span l)
  run_node l a b x k h e = join_true s len (span l) (node_in (levels l)) (span_pos l) (right l x k) a (b - 1 - a) inside ∙ ap (node_of s (a * span l)) ends
    where
      upto : suc (a + (b - 1 - a)) ≡ b
      upto = omega arith

      ends : min (suc (a + (b - 1 - a)) * span l) len ≡ b * span l
      ends = ap (λ (n : ℕ). min (n * span l) len) upto ∙ omega (arith, e)

      inside : (a + (b - 1 - a)) * span l < len
      inside = omega (arith, e, span_pos l, ap (λ (n : ℕ). n * span l) upto)

  step_at : (p b : ℕ) → p < b → b ≤ len → Step (step_node levels s) step_end s p b
  unfolding part_node
  step_at p b h k = record { more = end_more p b h; upto = end_upto p b h; is = go (level_at p b) refl (level_fits p b h) }
    where
      go : (l : ℕ) → l ≡ level_at p b → Fits p (b - p) l → part_node levels s l p (run_end (span l) p b) ≡ node_of s p (run_end (span l) p b)
      go zero e f = refl
      go (suc l) e f =
          let hw = span_pos (suc l) in
          let q = run_border (span (suc l)) p b hw f.aligned f.small h in
          run_node (suc l) (p / span (suc l)) (run_end (span (suc l)) p b / span (suc l)) (omega arith) (omega (arith, e, best_le (fits_at p (b - p)) top_level))
          (run_numbers (span (suc l)) p b hw f.aligned f.small h) (omega (arith, q, run_upto (span (suc l)) p b hw f.aligned f.small h))
          ∙ ap₂ (node_of s) (at_border (span (suc l)) p b hw f.aligned f.small h) q

  chunk_node_lem : (a b : ℕ) → a < b → b ≤ len → chunk_node levels s a b ≡ node_of s a b
  unfolding chunk_node
  chunk_node_lem = joined_node (step_node levels s) step_end s len step_at

  cut_step : (p b : ℕ) → p < b → b ≤ len → Step (λ p e. chunk_node levels s p (cut_at p e)) cut_at s p b
  cut_step p b h k = record { more = omega arith; upto = omega arith; is = chunk_node_lem p (cut_at p b) (omega arith) (omega arith) }

  -- on right levels the summary of a range is its node
  by_levels_right : (a b : ℕ) → a < b → b ≤ len → by_levels levels s a b ≡ node_of s a b
  unfolding by_levels
  by_levels_right = joined_node (λ p e. chunk_node levels s p (cut_at p e)) cut_at s len cut_step

  pub summed_right : (a b : ℕ) → a < b → b ≤ len → summed levels s a b ≡ node_of s a b
  unfolding summed
  summed_right a b h k = go (leb (b - a) 64)
    where
      go : (t : Bool) → cond t (node_of s a b) (by_levels levels s a b) ≡ node_of s a b
      go true = refl
      go false = by_levels_right a b h k

  pub summary_is : (a b : ℕ) → summary_of levels s len a b ≡ summary s len a b
  summary_is a b = go (dec_lt a (min b len))
    where
      go : Dec (a < min b len) → summary_of levels s len a b ≡ summary s len a b
      go (yes h) = ap (λ (n : Node). cond (ltb a (min b len)) (Some n) None) (summed_right a (min b len) h (omega arith))
      go (no h) =
          ap (λ (t : Bool). cond t (Some (summed levels s a (min b len))) None) (le-ltb a (min b len) (omega arith))
          ∙ sym (ap (λ (t : Bool). cond t (Some (node_of s a (min b len))) None) (le-ltb a (min b len) (omega arith)))
