-- To remove a layer of an ascending rundown and add it again restores its very bytes, and so does to add one and remove it.
use Rattle.std.proofs.Common.{Ok}
use mathlib.Core.Path.{◌≡◌, refl, ap, ◌∙◌}
use mathlib.Core.List.{List, [], ◌∷◌}
use Prim.Native.Nat.{ℕ, ◌+◌, ◌-◌, ◌*◌, ◌≤◌, ◌<◌}
use native.Mathlib.Omega.{arith}
use borrow.Author.Tests.{lt-ltb, le-leb}
use lib.ListN.{length, take}
use Rattle.answer.specs.Tests.{unless, at}
use Rattle.answer.proofs.Laws.{passes}
use Rattle.block.specs.Bytes.{byte, block_at}
use Rattle.block.specs.Fields.{priority}
use Rattle.block.specs.Verdict.{shape}
use Rattle.block.proofs.Laws.{placed_long, block_small}
use Rattle.order.specs.Order.{sort}
use Rattle.order.proofs.Laws.Only.{sorted_is}
use Rattle.rundown.specs.Tests.{tested, free, room, add_answer, remove_answer}
use Rattle.rundown.specs.Kept.{blocks, without, ordered, AddLeaves, RemoveLeaves}
use Rattle.rundown.proofs.Laws.Held.{Held, held_at, untaken_of, added}
use Rattle.rundown.proofs.Laws.Blocks.{Ascends, blocks_in, ascending_blocks, ordered_is, same_front}
use Rattle.rundown.proofs.Laws.Sealed.{body_passes, body_priority, sealed_again}
use Rattle.rundown.proofs.Laws.Without.{without_lacks, ascending_without, insert-without}
use Rattle.rundown.proofs.Laws.Kept.{remove_accepts, remove_keeps, accepts, back}

-- add's answer where all of its tests pass
add_accepts : (count : ℕ) (buf new : List ℕ) → tested count buf ≡ Ok count → shape new ≡ Ok tt → ((i : ℕ) → i < count → priority (block_at buf i) ≡ priority new → ⊥)
    → count < 256 → 512 * count + 512 ≤ length buf → add_answer count buf new ≡ Ok (count + 1)
unfolding add_answer free room at unless
add_accepts count buf new ok s f h l =
    passes (tested count buf) (at count (shape new) ∷ free (priority new) count buf ∷ room count buf ∷ []) count (count + 1) ok
    ∙ (rw (s, untaken_of (priority new) count buf f, lt-ltb count 256 h, le-leb (512 * (count + 1)) (length buf) (omega arith)) refl)

module _ (count : ℕ) (buf : List ℕ) (small : (o : ℕ) → byte buf o < 256) (ok : tested count buf ≡ Ok count) (up : Ascends count buf) where
  all : Held count buf
  all = held_at count count buf ok

  lies : (i : ℕ) → i < count → 512 * i + 512 ≤ length buf
  lies i h = omega (arith, all.fits)

  module _ (p i : ℕ) (l : i < count) (e : priority (block_at buf i) ≡ p) where
    abbrev layer : List ℕ
    layer = take 508 (block_at buf i)

    long : length (block_at buf i) ≡ 512
    unfolding block_at
    long = placed_long buf (512 * i) (lies i l)

    gone : remove_answer count buf p ≡ Ok (count - 1)
    gone = remove_accepts count p i buf ok l e

    module _ (b₁ : List ℕ) (r : RemoveLeaves (Ok (count - 1)) count p buf b₁) where
      -- the other blocks, which ascend as they did
      others : blocks (count - 1) b₁ ≡ without p (blocks count buf)
      unfolding RemoveLeaves
      others = r.1 ∙ ordered_is _ (ascending_without p (blocks count buf) (ascending_blocks buf count up))

      again : add_answer (count - 1) b₁ layer ≡ Ok count
      unfolding RemoveLeaves
      again =
          add_accepts (count - 1) b₁ layer (remove_keeps count (count - 1) p buf b₁ gone r) (body_passes (block_at buf i) long (block_small buf small i) (all.pass i l))
          (λ j m q. without_lacks p (block_at b₁ j) (blocks count buf) (rw others at (blocks_in b₁ (count - 1) j m)) (q ∙ body_priority (block_at buf i) long (block_small buf small i) (all.pass i l) ∙ e))
          (omega (arith, all.few)) (omega (arith, all.fits, r.0))
          ∙ ap Ok (omega arith)

      whole : (b₂ : List ℕ) → AddLeaves (Ok count) (count - 1) layer b₁ b₂ → take (512 * count) b₂ ≡ take (512 * count) buf
      unfolding AddLeaves RemoveLeaves ordered sort
      whole b₂ s =
          same_front count b₂ buf (omega (arith, s.0, r.0, all.fits)) all.fits
          (s.1 ∙ rw (sealed_again (block_at buf i) long (block_small buf small i) (all.pass i l), others, sorted_is (List ℕ) priority _ (ascending_without p (blocks count buf) (ascending_blocks buf count up)))
          (insert-without p (block_at buf i) e (blocks count buf) (ascending_blocks buf count up) (blocks_in buf count i l)))

    -- remove and add accept it, and the rundown's bytes are those it had
    pub restores : (b₁ b₂ : List ℕ) → RemoveLeaves (remove_answer count buf p) count p buf b₁ → AddLeaves (add_answer (count - 1) b₁ layer) (count - 1) layer b₁ b₂
        → (remove_answer count buf p ≡ Ok (count - 1)) × (add_answer (count - 1) b₁ layer ≡ Ok count) × (take (512 * count) b₂ ≡ take (512 * count) buf)
    restores b₁ b₂ r s = let q = rw gone at r in (gone, again b₁ q, whole b₁ q b₂ (rw (again b₁ q) at s))

-- the mirror: an accepted add to an ascending rundown, then remove of its priority
pub restores_added : (count n : ℕ) (a new b c : List ℕ) → length new ≡ 508 → ((o : ℕ) → byte new o < 256) → Ascends count a → add_answer count a new ≡ Ok n
    → AddLeaves (Ok n) count new a b → RemoveLeaves (remove_answer n b (priority new)) n (priority new) b c
    → (remove_answer n b (priority new) ≡ Ok count) × (take (512 * count) c ≡ take (512 * count) a)
unfolding AddLeaves RemoveLeaves
restores_added count n a new b c long small up e l r =
    let g = accepts count n a new b long small e l in
    let s = rw g at r in
    let f = (added count n a new e).held.fits in (
      g,
      same_front count c a (omega (arith, f, s.0, l.0)) f (back count n a new b long small e l c s ∙ ordered_is (blocks count a) (ascending_blocks a count up)),
    )
