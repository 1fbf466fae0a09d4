-- A refused batch changes no word, whatever the areas. Assumes nothing.
use mathlib.Core.Bool.{Bool, cond, false, true, true≢false, ◌||◌}
use mathlib.Core.List.{List}
use mathlib.Core.Path.{◌≡◌, ap, refl, sym, ◌∙◌}
use Prim.Native.Nat.{ℕ}
use lib.ListN.{length}
use native.Mathlib.Omega.{arith}
use Rattle.model.specs.Record.{Bytes, is_accepted}
use Rattle.model.specs.Network.{Node, nodes_in, within}
use Rattle.model.specs.Station.{Step, step}
use Rattle.model.specs.Areas.{Areas, coherent, holding, layout, state_in}
use Rattle.model.specs.Calls.{Applied, Keeps, Promise, Result, apply_promise, form_verdict, free, freely_accepted, freely_refused, promise_of, result_of, settled}

keeps-refused : (p : Promise) (a : Areas) (r : Result) → ((x : Result) → p ≡ settled x → is_accepted x.verdict ≡ false → x.areas ≡ a) → Keeps p a r → is_accepted r.verdict
    ≡ false → r.areas ≡ a
keeps-refused (settled x) a r h k e = ap (λ (y : Result). y.areas) k ∙ h x refl (ap (λ (y : Result). is_accepted y.verdict) (sym k) ∙ e)
keeps-refused (free n) a r h (freely_accepted v rest) e = absurd (true≢false (sym (ap is_accepted v) ∙ e))
keeps-refused (free n) a r h (freely_refused v inside same) e = same

settled-refused : (nodes : List Node) (a : Areas) (st : Step) (t : Bool) (x : Result) → cond t (settled (result_of nodes a st)) (free (length nodes)) ≡ settled x →
    is_accepted x.verdict ≡ false → x.areas ≡ a
unfolding result_of
settled-refused nodes a st true x e f =
    let same : result_of nodes a st ≡ x = ap result e in
    ap (λ (y : Result). y.areas) (sym same) ∙ ap (λ (u : Bool). cond u (holding layout nodes st.state a) a) (ap (λ (y : Result). is_accepted y.verdict) same ∙ f)
  where
    result : Promise → Result
    result (settled y) = y
    result (free n) = x
settled-refused nodes a st false x e f = let z : ◌≡◌ {A = ℕ} 0 1 = cc in absurd (omega arith)

pub refused-keeps : (net batch : Bytes) (a : Areas) (r : Result) → Applied net batch a r → is_accepted r.verdict ≡ false → r.areas ≡ a
unfolding apply_promise promise_of
refused-keeps net batch a r m e = keeps-refused (apply_promise net batch a) a r go m e
  where
    part : (t : Bool) (x : Result) → cond t (promise_of (nodes_in net) a (step (nodes_in net) (state_in layout (nodes_in net) a) batch))
        (settled (record { verdict = form_verdict net a; areas = a })) ≡ settled x → is_accepted x.verdict ≡ false → x.areas ≡ a
    part true x f g = settled-refused (nodes_in net) a (step (nodes_in net) (state_in layout (nodes_in net) a) batch)
        (coherent layout (nodes_in net) a || within 9 13 (step (nodes_in net) (state_in layout (nodes_in net) a) batch).verdict.number) x f g
    part false x f g = ap areas_of_lem (sym f)
      where
        areas_of_lem : Promise → Areas
        areas_of_lem (settled y) = y.areas
        areas_of_lem (free n) = a

    go : (x : Result) → apply_promise net batch a ≡ settled x → is_accepted x.verdict ≡ false → x.areas ≡ a
    go x f g = part (is_accepted (form_verdict net a)) x f g
