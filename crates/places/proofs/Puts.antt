-- Rows put one after the other into a place that was empty. Assumes nothing.
use mathlib.Core.Path.{◌≡◌, refl, sym, ap, ap₂, ◌∙◌}
use mathlib.Core.Bool.{Bool, true, ◌||◌, or_assoc, or_comm}
use mathlib.Core.List.{List, [], ◌∷◌, ◌++◌, map, append_assoc, append-nil, flat_map}
use Prim.Native.Nat.{ℕ, zero, suc, ◌+◌, ◌-◌, ◌*◌, ◌≤◌, ◌<◌, zero-le}
use native.Mathlib.Nat.{le_refl, le_trans}
use native.Mathlib.Omega.{arith}
use lib.ListN.{length, drop, replicate, length-append, length-replicate, length-drop}
use Rattle.model.specs.Row.{Row, Relation, same_row, ascending, member, insert_row, set_of, max_rows, max_width, Wide}
use Rattle.model.specs.Areas.{padded, place_size, stride}
use Rattle.laws.proofs.Sets.{Ascending, ascending_true, asc_insert, ext, member_insert, set_of-ascending, insert_more}
use Rattle.rows.specs.Rows.{row_at, rows_from, first_rows, words, stored}
use Rattle.rows.proofs.Words.{wide_rows, length-words, rows_snoc, rows-stored}
use Rattle.laws.proofs.Widths.{wide_insert, wide_each, wide-set_of}
use Rattle.rows.proofs.Padding.{map-append, set_of-padded}
use Rattle.rows.proofs.Place.{length-map-padded}
use Rattle.places.specs.Places.{relation_in, Place, Blank, Fills, Stands, Stored, Makes, insert_all}
use Rattle.std.specs.Prelude.{Option, None, Some}
use Rattle.places.proofs.Places.{place-rows, place-wide, stored-blank}

-- ---- rows put in

wide_all : (w : ℕ) (a b : List Row) → Wide w a → Wide w b → Wide w (insert_all a b)
wide_all w [] b h g = g
wide_all w (r ∷ a) b h g = wide_insert w r (insert_all a b) h.0 (wide_all w a b h.1 g)

asc_all : (a b : List Row) → Ascending b → Ascending (insert_all a b)
asc_all [] b h = h
asc_all (r ∷ a) b h = asc_insert r (insert_all a b) (asc_all a b h)

-- rows put into an ascending list are the set of both
pub all_union : (a b : List Row) → Ascending b → insert_all a b ≡ set_of (a ++ b)
all_union [] b h = sym (set_of-ascending b h)
all_union (r ∷ a) b h = ap (insert_row r) (all_union a b h)

-- what stands in a place, read back
module _ (x : List Row) (wide : Wide stride x) (out : List ℕ) (count : ℕ) (s : Stands x out count) where
  pub stands-rows : first_rows out count ≡ x
  stands-rows = rw (s.is, s.count) (rows-stored stride x (replicate place_size 0) wide)

  pub stands-size : length out ≡ place_size
  unfolding stored
  stands-size =
      let size : length (words x) ≡ length x * stride = length-words stride x wide in
      ap length s.is ∙ length-append (words x) (drop (length (words x)) (replicate place_size 0)) ∙ rw (length-drop, length-replicate, size) (omega (arith, s.count, s.few))

  stands_again : Stands (first_rows out count) out count
  stands_again = rw stands-rows s

  stands_ascend : Ascending x → ascending (first_rows out count) ≡ true
  stands_ascend a = rw stands-rows (ascending_true x a)

-- an empty place has no row
pub stands_none : (out : List ℕ) → Blank out → Stands [] out 0
unfolding stored
stands_none out e = record { count = refl; few = zero-le; is = e }

-- the rows that f makes of each of the first i rows, put into b
abbrev pub put_up_to : (Row → List Row) → List Row → List ℕ → ℕ → List Row
put_up_to f b s i = insert_all (flat_map f (first_rows s i)) b

insert_append : (a b c : List Row) → insert_all (a ++ b) c ≡ insert_all a (insert_all b c)
insert_append [] b c = refl
insert_append (r ∷ a) b c = ap (insert_row r) (insert_append a b c)

member_all : (x : Row) (a b : List Row) → member x (insert_all a b) ≡ (member x a || member x b)
member_all x [] b = refl
member_all x (r ∷ a) b = member_insert x r (insert_all a b) ∙ rw (member_all x a b) (sym (or_assoc (same_row x r) (member x a) (member x b)))

-- it does not matter which rows are put in first
insert_swap : (a b c : List Row) → Ascending c → insert_all a (insert_all b c) ≡ insert_all b (insert_all a c)
insert_swap a b c h =
    ext (insert_all a (insert_all b c)) (insert_all b (insert_all a c)) (asc_all a (insert_all b c) (asc_all b c h)) (asc_all b (insert_all a c) (asc_all a c h))
    (λ x. member_all x a (insert_all b c) ∙ ap (λ (t : Bool). member x a || t) (member_all x b c)
    ∙ sym (or_assoc (member x a) (member x b) (member x c)) ∙ ap (λ (t : Bool). t || member x c) (or_comm (member x a) (member x b))
    ∙ or_assoc (member x b) (member x a) (member x c) ∙ sym (member_all x b (insert_all a c) ∙ ap (λ (t : Bool). member x b || t) (member_all x a c)))

-- a row behind others, as a set
pub set_snoc : (l : List Row) (x : Row) → set_of (l ++ (x ∷ [])) ≡ insert_row x (set_of l)
set_snoc l x = sym (all_union l (x ∷ []) (tt, tt)) ∙ insert_swap l (x ∷ []) [] tt ∙ ap (insert_row x) (all_union l [] tt ∙ ap set_of (append-nil l))

each_snoc : (f : Row → List Row) (l : List Row) (r : Row) → flat_map f (l ++ (r ∷ [])) ≡ flat_map f l ++ f r
unfolding flat_map
each_snoc f [] r = append-nil (f r)
each_snoc f (x ∷ l) r = ap (λ (m : List Row). f x ++ m) (each_snoc f l r) ∙ sym (append_assoc (f x) (flat_map f l) (f r))

all_more : (a b : List Row) → length b ≤ length (insert_all a b)
all_more [] b = le_refl (length b)
all_more (r ∷ a) b = le_trans (all_more a b) (insert_more r (insert_all a b))

module _ (f : Row → List Row) (b : List Row) (s : List ℕ) (n : ℕ) (wf : (r : Row) → length r ≡ stride → Wide stride (f r)) (wb : Wide stride b) (asc : Ascending b) where
  put-wide : (i : ℕ) → Wide stride (put_up_to f b s i)
  put-wide i = wide_all stride (flat_map f (first_rows s i)) b (wide_each stride f (first_rows s i) stride (wide_rows stride s 0 i) wf) wb

  put-asc : (i : ℕ) → Ascending (put_up_to f b s i)
  put-asc i = asc_all (flat_map f (first_rows s i)) b asc

  pub put-size : (i : ℕ) (out : List ℕ) (count : ℕ) → Stands (put_up_to f b s i) out count → length out ≡ place_size
  put-size i out count t = stands-size (put_up_to f b s i) (put-wide i) out count t

  -- what putting one row more asks for
  pub put_ready : (i : ℕ) (out : List ℕ) (count : ℕ) → Stands (put_up_to f b s i) out count → Stands (first_rows out count) out count × (ascending (first_rows out count) ≡ true)
  put_ready i out count t = (stands_again (put_up_to f b s i) (put-wide i) out count t, stands_ascend (put_up_to f b s i) (put-wide i) out count t (put-asc i))

  pub put_start : (out : List ℕ) (count : ℕ) → Stands b out count → Stands (put_up_to f b s 0) out count
  unfolding flat_map rows_from
  put_start out count t = t

  pub put-turn : (i : ℕ) → put_up_to f b s (i + 1) ≡ insert_all (f (row_at stride s i)) (put_up_to f b s i)
  put-turn i =
      let z : 0 + i ≡ i = omega arith in
      let last : first_rows s (i + 1) ≡ first_rows s i ++ (row_at stride s i ∷ []) = rw z at (rows_snoc stride s 0 i) in
      ap (λ (l : List Row). insert_all l b) (ap (flat_map f) last ∙ each_snoc f (first_rows s i) (row_at stride s i))
      ∙ insert_append (flat_map f (first_rows s i)) (f (row_at stride s i)) b
      ∙ insert_swap (flat_map f (first_rows s i)) (f (row_at stride s i)) b asc

  -- what one row more brings
  put_more : (i : ℕ) (out out' : List ℕ) (count : ℕ) (made : Option ℕ) → Stands (put_up_to f b s i) out count →
      Stored (insert_all (f (row_at stride s i)) (first_rows out count)) out' made → Stored (put_up_to f b s (i + 1)) out' made
  put_more i out out' count made t x =
      let turn : put_up_to f b s (i + 1) ≡ insert_all (f (row_at stride s i)) (first_rows out count) =
      put-turn i ∙ ap (insert_all (f (row_at stride s i))) (sym (stands-rows (put_up_to f b s i) (put-wide i) out count t)) in
      rw turn x

  -- a row that brings none
  pub put_none : (i : ℕ) (out : List ℕ) (count : ℕ) → f (row_at stride s i) ≡ [] → Stands (put_up_to f b s i) out count → Stands (put_up_to f b s (i + 1)) out count
  put_none i out count e t =
      let turn : put_up_to f b s (i + 1) ≡ put_up_to f b s i = put-turn i ∙ ap (λ (l : List Row). insert_all l (put_up_to f b s i)) e in
      rw turn t

  put_grows : (i k : ℕ) → length (put_up_to f b s i) ≤ length (put_up_to f b s (k + i))
  put_grows i zero = let z : 0 + i ≡ i = omega arith in rw z (le_refl (length (put_up_to f b s i)))
  put_grows i (suc k) =
      let e : k + i + 1 ≡ suc k + i = omega arith in
      let step : length (put_up_to f b s (k + i)) ≤ length (put_up_to f b s (k + i + 1)) = rw (put-turn (k + i)) (all_more (f (row_at stride s (k + i))) (put_up_to f b s (k + i))) in
      le_trans (put_grows i k) (rw e at step)

  -- one row more that stands there: what stands then
  pub put-stands : (i : ℕ) (out out' : List ℕ) (count more : ℕ) (made : Option ℕ) → made ≡ Some more → Stands (put_up_to f b s i) out count →
      Stored (insert_all (f (row_at stride s i)) (first_rows out count)) out' made → (length out' ≡ place_size) × Stands (put_up_to f b s (i + 1)) out' more
  put-stands i out out' count more made e t x =
      let there : Stands (put_up_to f b s (i + 1)) out' more = rw e at (put_more i out out' count made t x) in
      (put-size (i + 1) out' more there, there)

  -- one row more that is too many: all of them are too many
  pub put_exceeds : (i : ℕ) (out out' : List ℕ) (count : ℕ) (made : Option ℕ) → made ≡ None → i < n → Stands (put_up_to f b s i) out count →
      Stored (insert_all (f (row_at stride s i)) (first_rows out count)) out' made → (max_rows < length (put_up_to f b s n)) × (length out' ≡ place_size)
  put_exceeds i out out' count made e h t x =
      let over : (max_rows < length (put_up_to f b s (i + 1))) × (length out' ≡ place_size) = rw e at (put_more i out out' count made t x) in
      let k : n - (i + 1) + (i + 1) ≡ n = omega arith in
      (le_trans over.0 (rw k at (put_grows (i + 1) (n - (i + 1)))), over.1)

-- all rows that f makes of some rows, put into an empty place
pub put_all : (f : Row → List Row) (s : List ℕ) (n : ℕ) → put_up_to f [] s n ≡ set_of (flat_map f (first_rows s n))
put_all f s n = all_union (flat_map f (first_rows s n)) [] tt ∙ ap set_of (append-nil (flat_map f (first_rows s n)))

-- ---- the model's rows

-- padded rows in a place are the model's relation
module _ (x : List Row) (rel : Relation) (v : ℕ) (narrow : v ≤ max_width) (wide : Wide v rel) (same : x ≡ map (padded stride) rel) where
  pub model_fills : (out : List ℕ) (count : ℕ) → Stands x out count → Fills rel out count
  model_fills out count s =
      let size : count ≡ length rel = s.count ∙ ap length same ∙ length-map-padded stride rel in
      record { count = size; few = s.few; is = s.is ∙ ap (λ (l : List Row). stored l (replicate place_size 0)) same ∙ stored-blank v rel narrow wide (rw (← size) s.few) }

  pub model_exceeds : max_rows < length x → max_rows < length rel
  model_exceeds h = rw (sym (length-map-padded stride rel) ∙ ap length (sym same)) h

  pub model_makes : (out : List ℕ) (made : Option ℕ) → Stored x out made → Makes rel out made
  model_makes out (Some n) s = model_fills out n s
  model_makes out None s = (model_exceeds s.0, s.1)

each_padded : (f g : Row → List Row) (w : ℕ) (rel : Relation) → Wide w rel → ((r : Row) → length r ≡ w → f (padded stride r) ≡ map (padded stride) (g r)) → flat_map f (map (padded stride) rel)
    ≡ map (padded stride) (flat_map g rel)
unfolding flat_map
each_padded f g w [] h e = refl
each_padded f g w (r ∷ rel) h e =
    ap₂ {A = List Row} {B = List Row} {C = List Row} (λ a b. a ++ b) (e r h.0) (each_padded f g w rel h.1 e) ∙ sym (map-append stride (g r) (flat_map g rel))

-- the rows that f makes of a place's rows
module _ (f g : Row → List Row) (w v : ℕ) (s : List ℕ) (n : ℕ) (pl : Place w s n) (e : (r : Row) → length r ≡ w → f (padded stride r) ≡ map (padded stride) (g r))
    (wg : (r : Row) → length r ≡ w → Wide v (g r)) where
  pub made_wide : Wide v (set_of (flat_map g (relation_in w s n)))
  made_wide = wide-set_of v (flat_map g (relation_in w s n)) (wide_each v g (relation_in w s n) w (place-wide w s n pl) wg)

  pub made_is : set_of (flat_map f (first_rows s n)) ≡ map (padded stride) (set_of (flat_map g (relation_in w s n)))
  made_is =
      ap set_of (ap (flat_map f) (place-rows w s n pl) ∙ each_padded f g w (relation_in w s n) (place-wide w s n pl) e)
      ∙ set_of-padded stride v (flat_map g (relation_in w s n)) (wide_each v g (relation_in w s n) w (place-wide w s n pl) wg)
