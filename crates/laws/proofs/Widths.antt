-- Rows of one width: what keeps the width. Assumes nothing.
use mathlib.Core.Bool.{Bool, true, false}
use mathlib.Core.List.{List, [], ◌∷◌, ◌++◌, flat_map, map}
use mathlib.Core.Path.{◌≡◌}
use Prim.Native.Nat.{ℕ, Ordering}
use lib.ListN.{length}
use Rattle.model.specs.Row.{Row, Wide, keep, keep_if, insert_row, order, place, set_of}

pub wide-keep : (w : ℕ) (p : Row → Bool) (l : List Row) → Wide w l → Wide w (keep p l)
wide-keep w p [] h = tt
wide-keep w p (x ∷ l) h = go (p x) (wide-keep w p l h.1)
  where
    go : (t : Bool) → Wide w (keep p l) → Wide w (keep_if t x (keep p l))
    go true m = (h.0, m)
    go false m = m

pub wide-append : (w : ℕ) (a b : List Row) → Wide w a → Wide w b → Wide w (a ++ b)
wide-append w [] b ha hb = hb
wide-append w (r ∷ a) b ha hb = (ha.0, wide-append w a b ha.1 hb)

pub wide_insert : (w : ℕ) (r : Row) (l : List Row) → length r ≡ w → Wide w l → Wide w (insert_row r l)
wide_insert w r [] h a = (h, tt)
wide_insert w r (x ∷ l) h a = go (order r x) (wide_insert w r l h a.1)
  where
    go : (o : Ordering) → Wide w (insert_row r l) → Wide w (place o r x l (insert_row r l))
    go Ordering.lt m = (h, a)
    go Ordering.eq m = a
    go Ordering.gt m = (a.0, m)

pub wide-set_of : (w : ℕ) (l : List Row) → Wide w l → Wide w (set_of l)
wide-set_of w [] h = tt
wide-set_of w (r ∷ l) h = wide_insert w r (set_of l) h.0 (wide-set_of w l h.1)

pub wide_each : (v : ℕ) (f : Row → List Row) (l : List Row) (w : ℕ) → Wide w l → ((r : Row) → length r ≡ w → Wide v (f r)) → Wide v (flat_map f l)
unfolding flat_map
wide_each v f [] w h g = tt
wide_each v f (r ∷ l) w h g = wide-append v (f r) (flat_map f l) (g r h.0) (wide_each v f l w h.1 g)

pub wide-map : (f : Row → Row) (v : ℕ) (l : List Row) → ((r : Row) → length (f r) ≡ v) → Wide v (map f l)
wide-map f v [] h = tt
wide-map f v (r ∷ l) h = (h r, wide-map f v l h)
