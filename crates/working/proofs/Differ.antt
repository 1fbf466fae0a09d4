-- New rows against old ones, their change, and what stands where once they are put. Assumes nothing.
use Prim.Native.Nat.{ℕ, ◌≤◌, ◌*◌, ◌<◌, ◌+◌, ◌-◌}
use mathlib.Core.List.{List, [], ◌++◌, append_assoc}
use mathlib.Core.Path.{◌≡◌, ap, sym, ◌∙◌, refl}
use mathlib.Core.Bool.{true, not, Bool, false, cond}
use lib.ListN.{length, take, drop, get_or, set, length-set}
use lib.Seq.{take_all, get_or-set_same, get_or-set_other, set-get_or, paste, length-paste}
use borrow.Rule.Slice.PartMut.{put_mid, Post-is}
use native.Mathlib.Nat.{not-suc-le-zero}
use native.Mathlib.Omega.{arith}
use lib.Dec.{ltb}
use borrow.Author.Tests.{ltb-true, ltb-false}
use Rattle.places.specs.Places.{Place, Blank, relation_in}
use Rattle.model.specs.Row.{Relation, same_rows, max_nodes, max_rows}
use Rattle.model.specs.Algebra.{difference_rows}
use Rattle.states.proofs.Changes.{difference_self}
use Rattle.places.proofs.Places.{place-few, place_is, place_rest}
use Rattle.laws.proofs.Sets.{same_rows_eq}
use Rattle.model.specs.Areas.{place_of, layout, area_size, place_size, stride}
use Rattle.rows.proofs.Words.{drop_zeros}
use Rattle.areas.specs.Lent.{place_at}
use Rattle.rows.specs.Rows.{first_rows}
use Rattle.differences.specs.declared.Sizes.{Sizes}
use Rattle.differences.specs.Differences.{Compares, picks_size}
use Rattle.differences.proofs.Told.{told-within, came-rows, came-count, gone-rows, gone-count}
use Rattle.working.specs.Worked.{Changes, told, SizedChanges, picks_at, gains_at, losses_at, Picked, Tells, KeepsTold, Untold, Puts}
use Rattle.new_rows.specs.Working.{working}
use Rattle.areas.proofs.Pasted.{pasted_before, pasted_here, pasted_after, place_pasted, place_other, place-counted}

-- ---- changes told

-- no rows, by no numbers
picked_none : (rel : Relation) (s numbers : List ℕ) (count : ℕ) → rel ≡ [] → count ≡ 0 → Picked rel s numbers count
picked_none rel s numbers count e z = rw (e, z) (record { count = refl; rows = refl; within = λ k h. absurd (not-suc-le-zero h) })

difference_none : (a b : Relation) → a ≡ b → difference_rows a b ≡ []
unfolding difference_rows
difference_none a b e = difference_self a b (λ r h. rw (← e) h)

-- the same rows: nothing is told
pub tells_none : (old new : Relation) (oldPlace newPlace : List ℕ) (d : Changes) (i : ℕ) → new ≡ old → Untold d i → Tells old oldPlace new newPlace d i
tells_none old new oldPlace newPlace d i e u =
    record {
      came = picked_none (difference_rows new old) newPlace (picks_at d.picks i) (gains_at d i) (difference_none new old e) u.gains;
      gone = picked_none (difference_rows old new) oldPlace (drop max_rows (picks_at d.picks i)) (losses_at d i) (difference_none old new (sym e)) u.losses;
    }

pub keeps_all : (d : Changes) (i : ℕ) → SizedChanges d → KeepsTold d d i
keeps_all d i s = record { sized = s; picks = λ j n. refl; gains = λ j h n. refl; losses = λ j n. refl }

-- numbers put back into node i's part of the picks, and the sizes of its change set
module _ (picks sizes part : List ℕ) (i g l : ℕ) (inside : i < max_nodes) (s : SizedChanges (told picks sizes)) (size : length part ≡ picks_size) where
  abbrev after : Changes
  after = told (put_mid (i * picks_size) (i * picks_size + picks_size - i * picks_size) picks part) (set (set sizes i g) (max_nodes + i) l)

  fits : i * picks_size + picks_size ≤ length picks
  fits = omega (arith, s.picks)

  as_paste : after.picks ≡ paste picks (i * picks_size) part picks_size
  as_paste =
      ap (λ (z : List ℕ). take (i * picks_size) picks ++ (part ++ z)) (Post-is (i * picks_size) (i * picks_size + picks_size) picks (omega arith))
      ∙ sym (append_assoc (take (i * picks_size) picks) part (drop (i * picks_size + picks_size) picks))
      ∙ ap (λ (z : List ℕ). take (i * picks_size) picks ++ z ++ drop (i * picks_size + picks_size) picks) (sym (take_all picks_size part (omega (arith, size))))

  cut : (j : ℕ) → j * picks_size + picks_size - j * picks_size ≡ picks_size
  cut j = omega arith

  picks_here : picks_at after.picks i ≡ part
  picks_here =
      ap (λ (z : List ℕ). picks_at z i) as_paste ∙ ap (λ (n : ℕ). take n (drop (i * picks_size) (paste picks (i * picks_size) part picks_size))) (cut i)
      ∙ pasted_here picks part (i * picks_size) picks_size fits (omega (arith, size)) ∙ take_all picks_size part (omega (arith, size))

  picks_other : (j : ℕ) → (j ≡ i → ⊥) → picks_at after.picks j ≡ picks_at picks j
  picks_other j n = ap (λ (z : List ℕ). picks_at z j) as_paste ∙ go (ltb j i) refl
    where
      go : (t : Bool) → ltb j i ≡ t → picks_at (paste picks (i * picks_size) part picks_size) j ≡ picks_at picks j
      go true e = let h : j < i = ltb-true j i e in rw (cut j) (pasted_before picks part (i * picks_size) picks_size fits (omega (arith, size)) (j * picks_size) picks_size (omega arith))
      go false e = let h : i ≤ j = ltb-false j i e in let k : i < j = omega (arith, n) in ap (take (j * picks_size + picks_size - j * picks_size))
          (pasted_after picks part (i * picks_size) picks_size fits (omega (arith, size)) (j * picks_size) (omega arith))

  once : length (set sizes i g) ≡ 2 * max_nodes
  once = length-set sizes i g ∙ s.sizes

  gains_here : gains_at after i ≡ g
  gains_here = get_or-set_other (set sizes i g) (max_nodes + i) i l 0 (λ e. absurd (omega (arith, e))) ∙ get_or-set_same sizes i g 0 (omega (arith, s.sizes))

  losses_here : losses_at after i ≡ l
  losses_here = get_or-set_same (set sizes i g) (max_nodes + i) l 0 (omega (arith, once))

  -- nothing is told of other nodes
  pub keeps-told : KeepsTold (told picks sizes) after i
  keeps-told =
      record {
        sized = record {
          picks = ap length as_paste ∙ length-paste picks (i * picks_size) part picks_size fits (omega (arith, size)) ∙ s.picks;
          sizes = length-set (set sizes i g) (max_nodes + i) l ∙ once;
        };
        picks = picks_other;
        gains = λ j h n. get_or-set_other (set sizes i g) (max_nodes + i) j l 0 (λ e. absurd (omega (arith, e))) ∙ get_or-set_other sizes i j g 0 n;
        losses = λ j n. get_or-set_other (set sizes i g) (max_nodes + i) (max_nodes + j) l 0 (λ e. n (omega (arith, e)))
            ∙ get_or-set_other sizes i (max_nodes + j) g 0 (λ e. absurd (omega (arith, e, inside)));
      }

  -- what a comparison of two places tells
  module _ (w : ℕ) (old : List ℕ) (m : ℕ) (new : List ℕ) (n : ℕ) (r : Sizes) (c : Compares old m new n part r) (gs : g ≡ r.gained) (ls : l ≡ r.lost) (po : Place w old m) (pn : Place w new
      n) where
    pub tells_compared : Tells (relation_in w old m) old (relation_in w new n) new after i
    tells_compared =
        record {
          came = rw (picks_here, gains_here ∙ gs) (record {
            count = came-count w old m new n part r po pn c;
            rows = came-rows w old m new n part r po pn c;
            within = told-within new n (first_rows old m) (take r.gained part) c.came (rw pn.long (omega (arith, place-few w new n pn)));
          });
          gone = rw (picks_here, losses_here ∙ ls) (record {
            count = gone-count w old m new n part r po pn c;
            rows = gone-rows w old m new n part r po pn c;
            within = told-within old m (first_rows new n) (take r.lost (drop max_rows part)) c.gone (rw po.long (omega (arith, place-few w old m po)));
          });
        }

-- ---- rows put

module _ (w : ℕ) (ws out : List ℕ) (n : ℕ) (rows : List ℕ) (i m : ℕ) (work counts : List ℕ) (changed : List Bool) (d : Changes) (p : Place w out n) (q : Place w (place_at rows i) m)
    (inside : i < max_nodes) (work-long : length work ≡ area_size) (few : length changed ≡ max_nodes) where
  abbrev new : Relation
  new = relation_in w out n

  abbrev old : Relation
  old = relation_in w (place_at rows i) m

  flag_set : (t : Bool) → get_or (set changed i t) i false ≡ t
  flag_set t = get_or-set_same changed i t false (omega (arith, few))

  -- the same rows: nothing more is written
  pub put_same : get_or changed i false ≡ false → Untold d i → (t : Bool) → t ≡ same_rows new old → t ≡ true →
      Puts old new out n (working ws rows work counts changed) (working ws rows work (set counts i n) changed) d d i
  put_same u told t e z =
      let flag : same_rows new old ≡ true = sym e ∙ z in
      let same : new ≡ old = same_rows_eq new old flag in
      record {
        counts = refl;
        changed = sym (set-get_or changed i false) ∙ ap (set changed i) (u ∙ ap not (sym flag));
        place = ap (λ (t : Bool). place_at (cond t work rows) i) u ∙ place_is w (place_at rows i) m q ∙ ap (place_of layout) (sym same) ∙ sym (place_is w out n p);
        work-long = work-long;
        work = λ j h k. refl;
        tells = tells_none old new (place_at rows i) (place_at work i) d i same told;
        keeps = keeps_all d i told.sized;
      }

  -- other rows: they stand in the working rows, in a place that was 0
  pub put_other : (d' : Changes) → (t : Bool) → t ≡ same_rows new old → t ≡ false → Blank (place_at work i) → (after : List ℕ) →
      after ≡ paste work (i * place_size) (drop 0 out) (n * stride) → Tells old (place_at rows i) new out d' i → KeepsTold d d' i →
      Puts old new out n (working ws rows work counts changed) (working ws rows after (set counts i n) (set changed i true)) d d' i
  put_other d' t e z blank after f told keeps =
      let fits : i * place_size + place_size ≤ length work = omega (arith, work-long) in
      let long : place_size ≤ length out = omega (arith, p.long) in
      let rest : drop (n * stride) (place_at work i) ≡ drop (n * stride) out = ap (drop (n * stride)) blank ∙ drop_zeros (n * stride) place_size ∙ sym (place_rest w out n p) in
      let whole : after ≡ paste work (i * place_size) out place_size =
      f ∙ place-counted work out i (n * stride) (omega (arith, place-few w out n p)) p.long rest in
      let put : place_at after i ≡ out = ap (λ (l : List ℕ). place_at l i) whole ∙ place_pasted work out i fits long ∙ take_all place_size out (omega (arith, p.long)) in
      record {
        counts = refl;
        changed = ap (λ (s : Bool). set changed i (not s)) (sym z ∙ e);
        place = ap (λ (t : Bool). place_at (cond t after rows) i) (flag_set true) ∙ put;
        work-long = ap length whole ∙ length-paste work (i * place_size) out place_size fits long ∙ work-long;
        work = λ j h k. ap (λ (l : List ℕ). place_at l j) whole ∙ place_other work out i fits long j k;
        tells = rw put told;
        keeps = keeps;
      }
