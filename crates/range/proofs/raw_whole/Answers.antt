-- Of the two runs' changes one is the same.
use Rattle.std.proofs.Common.{ℕ, ◌≡◌, ◌≤◌, ◌+◌, ◌-◌, refl, ap, ◌∙◌, arith}
use Rattle.rules.specs.Sample.{sample_of}
use Rattle.rules.specs.Node.{differs}
use Rattle.range.specs.Run.{Run, Both}
use Rattle.range.proofs.Raw.{both_ends, both_whole, run_node}
use Rattle.range.proofs.raw_whole.Goals as goal

-- both runs have 16 places
halves : (s : ℕ → ℕ) (a n mask count x y d : ℕ) → n ≡ 16 → Both s a n mask count → x ≡ s (a + 15) → y ≡ s (a + 16) → d ≡ differs y x → (d ≤ count) × Run s a 31 mask (count - d)
halves s a n mask count x y d e p ex ey ed = both_whole s a mask count x y d (both_ends s a n 16 mask count mask p (omega arith) refl) ex ey ed

end : (a : ℕ) → a + 31 ≡ a + 32 - 1
end a = omega arith

pub overflow_sub-halves : goal.overflow_sub-halves
overflow_sub-halves c =
    let a = c.args in
    (halves (sample_of a.unitsize a.part.now) a.a a.half _ _ _ _ _ c.requires.0 c.both-halves.ensures c.get-2.ensures c.get.ensures c.border-twice.ensures.0).0

pub returns : goal.returns
returns c =
    let a = c.args in
    let s = sample_of a.unitsize a.part.now in
    run_node s a.a (a.a + 32) _ _ _ 31
    (halves s a.a a.half c.both-halves.result.mask c.both-halves.result.count _ _ _ c.requires.0 c.both-halves.ensures c.get-2.ensures c.get.ensures c.border-twice.ensures.0).1
    (omega arith) c.get-3.ensures (c.get-4.ensures ∙ ap s (end a.a)) refl c.capped.ensures
