-- The head's words, stamp by stamp and list by list. Assumes nothing.
use Prim.Native.Nat.{ℕ, suc, ◌+◌, ◌*◌, ◌≤◌, ◌<◌}
use mathlib.Core.Path.{◌≡◌, ap, sym, ◌∙◌, refl, ap₂}
use mathlib.Core.List.{◌++◌, ◌∷◌, List, map, []}
use native.Mathlib.Omega.{arith}
use mathlib.Core.Bool.{Bool, false, cond}
use lib.ListN.{length, length-append, get_or, set, drop, take}
use lib.Seq.{paste, drop-append-add, drop-drop, take_at, take_all, drop-cons, set_at, append_snoc}
use Rattle.model.specs.Row.{numbers_below, max_nodes}
use Rattle.model.specs.Areas.{padded, stamp_at, over, head_words}
use Rattle.laws.proofs.Parts.{length-counted, numbers_more, map-append}
use Rattle.rows.proofs.Padding.{padded_more}
use Rattle.states.proofs.Head.{padded-length}
use Rattle.transition.specs.Head.{stamps_from, head_from}

-- ---- stamps

-- one stamp more
pub stamps_more : (head : List ℕ) (changed : List Bool) (number i : ℕ) (stamps : List ℕ) (x : ℕ) → i < max_nodes → stamps ≡ padded max_nodes (stamps_from head changed number i) →
    x ≡ cond (get_or changed i false) number (stamp_at head i) → set stamps i x ≡ padded max_nodes (stamps_from head changed number (i + 1))
stamps_more head changed number i stamps x h e f =
    ap₂ {A = List ℕ} {B = ℕ} {C = List ℕ} (λ s y. set s i y) e f
    ∙ padded_more max_nodes (stamps_from head changed number i) (cond (get_or changed i false) number (stamp_at head i)) i
    (length-counted (λ j. cond (get_or changed j false) number (stamp_at head j)) 0 i) h
    ∙ ap (padded max_nodes) (sym
    (ap (map (λ j. cond (get_or changed j false) number (stamp_at head j))) (numbers_more i) ∙ map-append (λ j. cond (get_or changed j false) number (stamp_at head j)) (numbers_below i) (i ∷ [])))

-- 32 of them
pub stamps-long : (head : List ℕ) (changed : List Bool) (number n : ℕ) (stamps : List ℕ) → stamps ≡ padded max_nodes (stamps_from head changed number n) → n ≤ max_nodes → length stamps ≡ max_nodes
stamps-long head changed number n stamps e few =
    ap length e ∙ padded-length max_nodes (stamps_from head changed number n) (rw (length-counted (λ j. cond (get_or changed j false) number (stamp_at head j)) 0 n) few)

-- ---- words written one after the other

-- a run of words put where the words before it end
pub over_more : (done xs h : List ℕ) (at n : ℕ) → length done ≡ at → length xs ≡ n → at + n ≤ length h → paste (over done h) at (drop 0 xs) n ≡ over (done ++ xs) h
over_more done xs h at n d x fits =
    let past : drop (at + n) (done ++ drop (length done) h) ≡ drop (length (done ++ xs)) h =
    ap (λ (k : ℕ). drop (k + n) (done ++ drop (length done) h)) (sym d) ∙ drop-append-add done (drop (length done) h) n ∙ drop-drop n (length done) h
    ∙ ap (λ (k : ℕ). drop k h) (ap (λ (k : ℕ). length done + k) (sym x) ∙ sym (length-append done xs)) in
    ap₂ {A = List ℕ} {B = List ℕ} {C = List ℕ} (λ a b. a ++ take n xs ++ b) (take_at done (drop (length done) h) at d) past
    ∙ ap (λ (l : List ℕ). done ++ l ++ drop (length (done ++ xs)) h) (take_all n xs (omega (arith, x)))

-- one word put there
pub over_one : (done h : List ℕ) (at x : ℕ) → length done ≡ at → at < length h → set (over done h) at x ≡ over (done ++ (x ∷ [])) h
over_one done h at x d fits =
    let cons : drop (length done) h ≡ get_or h (length done) 0 ∷ drop (suc (length done)) h = drop-cons h (length done) 0 (rw d fits) in
    ap (λ (l : List ℕ). set (done ++ l) at x) cons
    ∙ set_at done (get_or h (length done) 0) (drop (suc (length done)) h) x at d
    ∙ sym (append_snoc done x (drop (suc (length done)) h))
    ∙ ap (λ (k : ℕ). done ++ (x ∷ []) ++ drop k h) (let e : suc (length done) ≡ length (done ++ (x ∷ [])) = omega (arith, length-append done (x ∷ [])) in e)

-- all of the head's words
pub head_written : (h counts stamps sizes entries h1 h2 h3 h4 : List ℕ) (number k : ℕ) → head_words ≤ length h → length counts ≡ max_nodes → length stamps ≡ max_nodes →
    length sizes ≡ 2 * max_nodes → length entries ≡ max_nodes →
    h1 ≡ paste (set h 0 number) 1 (drop 0 counts) max_nodes → h2 ≡ paste h1 33 (drop 0 stamps) max_nodes → h3 ≡ paste h2 65 (drop 0 sizes) (2 * max_nodes) →
    h4 ≡ paste (set h3 129 k) 130 (drop 0 entries) max_nodes →
    h4 ≡ over (head_from number counts stamps sizes k entries) h
head_written h counts stamps sizes entries h1 h2 h3 h4 number k long lc ls lz le e1 e2 e3 e4 =
    let n1 : length ((number ∷ []) ++ counts) ≡ 33 = omega (arith, length-append (number ∷ []) counts, lc) in
    let n2 : length ((number ∷ []) ++ counts ++ stamps) ≡ 65 = omega (arith, length-append ((number ∷ []) ++ counts) stamps, n1, ls) in
    let n3 : length ((number ∷ []) ++ counts ++ stamps ++ sizes) ≡ 129 = omega (arith, length-append ((number ∷ []) ++ counts ++ stamps) sizes, n2, lz) in
    let n4 : length ((number ∷ []) ++ counts ++ stamps ++ sizes ++ (k ∷ [])) ≡ 130 = omega (arith, length-append ((number ∷ []) ++ counts ++ stamps ++ sizes) (k ∷ []), n3) in
    let s0 : set h 0 number ≡ over (number ∷ []) h = over_one [] h 0 number refl (omega arith) in
    let s1 : h1 ≡ over ((number ∷ []) ++ counts) h = e1 ∙ ap (λ (l : List ℕ). paste l 1 (drop 0 counts) max_nodes) s0 ∙ over_more (number ∷ []) counts h 1 max_nodes refl lc (omega arith) in
    let s2 : h2 ≡ over ((number ∷ []) ++ counts ++ stamps) h = e2 ∙ ap (λ (l : List ℕ). paste l 33 (drop 0 stamps) max_nodes) s1
    ∙ over_more ((number ∷ []) ++ counts) stamps h 33 max_nodes n1 ls (omega arith) in
    let s3 : h3 ≡ over ((number ∷ []) ++ counts ++ stamps ++ sizes) h = e3 ∙ ap (λ (l : List ℕ). paste l 65 (drop 0 sizes) (2 * max_nodes)) s2
    ∙ over_more ((number ∷ []) ++ counts ++ stamps) sizes h 65 (2 * max_nodes) n2 lz (omega arith) in
    let s4 : set h3 129 k ≡ over ((number ∷ []) ++ counts ++ stamps ++ sizes ++ (k ∷ [])) h = ap (λ (l : List ℕ). set l 129 k) s3
    ∙ over_one ((number ∷ []) ++ counts ++ stamps ++ sizes) h 129 k n3 (omega arith) in
    e4 ∙ ap (λ (l : List ℕ). paste l 130 (drop 0 entries) max_nodes) s4 ∙ over_more ((number ∷ []) ++ counts ++ stamps ++ sizes ++ (k ∷ [])) entries h 130 max_nodes n4 le (omega arith)
