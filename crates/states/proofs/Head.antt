-- The head's words: each of its lists is read back where it stands. Assumes nothing.
use mathlib.Core.List.{◌++◌, List, ◌∷◌, map, []}
use mathlib.Core.Path.{ap, sym, ◌∙◌, ◌≡◌, refl}
use Prim.Native.Nat.{◌+◌, ◌-◌, ◌<◌, ℕ, ◌≤◌}
use native.Mathlib.Omega.{arith}
use lib.ListN.{get_or-append, get_or, get_or-replicate, length, length-append, length-replicate, replicate, length-map}
use lib.Seq.{get_or-append-add}
use Rattle.model.specs.Areas.{padded, head_of, head_words}
use Rattle.model.specs.Row.{Relation, max_nodes}
use Rattle.model.specs.Station.{State}

-- a word of the second of two lists
pub at_right : (x y : List ℕ) (n k : ℕ) → length x ≡ n → get_or (x ++ y) (n + k) 0 ≡ get_or y k 0
at_right x y n k e = ap (λ (m : ℕ). get_or (x ++ y) (m + k) 0) (sym e) ∙ get_or-append-add x y k 0

pub padded-length : (n : ℕ) (l : List ℕ) → length l ≤ n → length (padded n l) ≡ n
padded-length n l h = length-append l (replicate (n - length l) 0) ∙ rw length-replicate (omega arith)

-- a list padded to 32 numbers, each number or 0
pub padded_at : (l : List ℕ) (i : ℕ) → i < length l → get_or (padded max_nodes l) i 0 ≡ get_or l i 0
padded_at l i h = get_or-append l (replicate (max_nodes - length l) 0) 0 i h

pub padded_zero : (n : ℕ) (l : List ℕ) (k : ℕ) → length l ≤ k → k < n → get_or (padded n l) k 0 ≡ 0
padded_zero n l k h g =
    let e : length l + (k - length l) ≡ k = omega arith in
    ap (λ (m : ℕ). get_or (padded n l) m 0) (sym e) ∙ get_or-append-add l (replicate (n - length l) 0) (k - length l) 0 ∙ get_or-replicate {A = ℕ} (n - length l) (k - length l) 0 0 (omega arith)

module _ (a p q r s b t rest : List ℕ) (la : length a ≡ 1) (lp : length p ≡ max_nodes) (lq : length q ≡ max_nodes) (lr : length r ≡ max_nodes) (ls : length s ≡ max_nodes) (lb : length b ≡ 1)
    (lt : length t ≡ max_nodes) where
  l2 : length (a ++ p) ≡ 33
  l2 = omega (arith, length-append a p)

  l3 : length (a ++ p ++ q) ≡ 65
  l3 = omega (arith, length-append (a ++ p) q, l2)

  l4 : length (a ++ p ++ q ++ r) ≡ 97
  l4 = omega (arith, length-append (a ++ p ++ q) r, l3)

  l5 : length (a ++ p ++ q ++ r ++ s) ≡ 129
  l5 = omega (arith, length-append (a ++ p ++ q ++ r) s, l4)

  l6 : length (a ++ p ++ q ++ r ++ s ++ b) ≡ 130
  l6 = omega (arith, length-append (a ++ p ++ q ++ r ++ s) b, l5)

  pub head-length : length (a ++ p ++ q ++ r ++ s ++ b ++ t) ≡ head_words
  head-length = omega (arith, length-append (a ++ p ++ q ++ r ++ s ++ b) t, l6)

  in7 : (k : ℕ) → k < head_words → get_or (a ++ p ++ q ++ r ++ s ++ b ++ t ++ rest) k 0 ≡ get_or (a ++ p ++ q ++ r ++ s ++ b ++ t) k 0
  in7 k h = get_or-append (a ++ p ++ q ++ r ++ s ++ b ++ t) rest 0 k (rw head-length h)

  in6 : (k : ℕ) → k < 130 → get_or (a ++ p ++ q ++ r ++ s ++ b ++ t ++ rest) k 0 ≡ get_or (a ++ p ++ q ++ r ++ s ++ b) k 0
  in6 k h = in7 k (omega arith) ∙ get_or-append (a ++ p ++ q ++ r ++ s ++ b) t 0 k (rw l6 h)

  in5 : (k : ℕ) → k < 129 → get_or (a ++ p ++ q ++ r ++ s ++ b ++ t ++ rest) k 0 ≡ get_or (a ++ p ++ q ++ r ++ s) k 0
  in5 k h = in6 k (omega arith) ∙ get_or-append (a ++ p ++ q ++ r ++ s) b 0 k (rw l5 h)

  in4 : (k : ℕ) → k < 97 → get_or (a ++ p ++ q ++ r ++ s ++ b ++ t ++ rest) k 0 ≡ get_or (a ++ p ++ q ++ r) k 0
  in4 k h = in5 k (omega arith) ∙ get_or-append (a ++ p ++ q ++ r) s 0 k (rw l4 h)

  in3 : (k : ℕ) → k < 65 → get_or (a ++ p ++ q ++ r ++ s ++ b ++ t ++ rest) k 0 ≡ get_or (a ++ p ++ q) k 0
  in3 k h = in4 k (omega arith) ∙ get_or-append (a ++ p ++ q) r 0 k (rw l3 h)

  in2 : (k : ℕ) → k < 33 → get_or (a ++ p ++ q ++ r ++ s ++ b ++ t ++ rest) k 0 ≡ get_or (a ++ p) k 0
  in2 k h = in3 k (omega arith) ∙ get_or-append (a ++ p) q 0 k (rw l2 h)

  pub word_first : get_or (a ++ p ++ q ++ r ++ s ++ b ++ t ++ rest) 0 0 ≡ get_or a 0 0
  word_first = in2 0 (omega arith) ∙ get_or-append a p 0 0 (rw la (omega arith))

  pub word_p : (k : ℕ) → k < max_nodes → get_or (a ++ p ++ q ++ r ++ s ++ b ++ t ++ rest) (1 + k) 0 ≡ get_or p k 0
  word_p k h = in2 (1 + k) (omega arith) ∙ at_right a p 1 k la

  pub word_q : (k : ℕ) → k < max_nodes → get_or (a ++ p ++ q ++ r ++ s ++ b ++ t ++ rest) (33 + k) 0 ≡ get_or q k 0
  word_q k h = in3 (33 + k) (omega arith) ∙ at_right (a ++ p) q 33 k l2

  pub word_r : (k : ℕ) → k < max_nodes → get_or (a ++ p ++ q ++ r ++ s ++ b ++ t ++ rest) (65 + k) 0 ≡ get_or r k 0
  word_r k h = in4 (65 + k) (omega arith) ∙ at_right (a ++ p ++ q) r 65 k l3

  pub word_s : (k : ℕ) → k < max_nodes → get_or (a ++ p ++ q ++ r ++ s ++ b ++ t ++ rest) (97 + k) 0 ≡ get_or s k 0
  word_s k h = in5 (97 + k) (omega arith) ∙ at_right (a ++ p ++ q ++ r) s 97 k l4

  pub word_b : get_or (a ++ p ++ q ++ r ++ s ++ b ++ t ++ rest) 129 0 ≡ get_or b 0 0
  word_b = in6 129 (omega arith) ∙ at_right (a ++ p ++ q ++ r ++ s) b 129 0 l5

  pub word_t : (k : ℕ) → k < max_nodes → get_or (a ++ p ++ q ++ r ++ s ++ b ++ t ++ rest) (130 + k) 0 ≡ get_or t k 0
  word_t k h = in7 (130 + k) (omega arith) ∙ at_right (a ++ p ++ q ++ r ++ s ++ b) t 130 k l6

-- the words of a head
pub head-size : (rels : List Relation) (s : State) → length rels ≤ max_nodes → length s.stamps ≤ max_nodes → length s.changes ≤ max_nodes → length s.worked ≤ max_nodes
    → length (head_of rels s) ≡ head_words
unfolding head_of
head-size rels s a b c d =
    head-length (s.number ∷ []) (padded max_nodes (map length rels)) (padded max_nodes s.stamps) (padded max_nodes (map (λ x. length x.gained) s.changes))
    (padded max_nodes (map (λ x. length x.lost) s.changes)) (length s.worked ∷ []) (padded max_nodes s.worked) [] refl
    (padded-length max_nodes (map length rels) (rw (length-map rels length) a)) (padded-length max_nodes s.stamps b)
    (padded-length max_nodes (map (λ x. length x.gained) s.changes) (rw (length-map s.changes (λ x. length x.gained)) c))
    (padded-length max_nodes (map (λ x. length x.lost) s.changes) (rw (length-map s.changes (λ x. length x.lost)) c)) refl (padded-length max_nodes s.worked d)
