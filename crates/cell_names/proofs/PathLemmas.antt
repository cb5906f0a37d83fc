-- The paths that steps make.
use Rattle.std.proofs.Common.{◌≡◌, ℕ, suc, ◌<◌, List, [], ◌∷◌, ◌++◌, length, Some, slice_get, refl, sym, ap, ◌∙◌}
use Rattle.std.specs.Option.{option_map}
use Rattle.std.proofs.lemmas.List.{length-map, map-append}
use Rattle.std.proofs.lemmas.Option.{slice_get-map}
use Rattle.cell_names.specs.declared.frame.NameFrame.{NameFrame}
use Rattle.cell_names.specs.declared.path.PathStep.{PathStep}
use Rattle.cell_names.specs.Paths.{or_root, path_at, paths_of}
use Rattle.cell_names.specs.Known.{KeepsNumbers}
use Rattle.base_values.proofs.Lists.{get_some}

abbrev frames_of : PathStep → List NameFrame
frames_of s = s.frames

pub paths_of-append : (steps : List PathStep) (s : PathStep) → paths_of (steps ++ s ∷ []) ≡ paths_of steps ++ s.frames ∷ []
paths_of-append steps s = ap (λ (ws : List (List NameFrame)). [] ∷ ws) (map-append frames_of steps (s ∷ []))

-- the path at a place that is kept is the same
pub path_at-kept : (old new : List (List NameFrame)) → KeepsNumbers old new → (n : ℕ) → n < length old → path_at old n ≡ path_at new n
path_at-kept old new keeps n h =
    let r : (w : List NameFrame) × (slice_get old n ≡ Some w) = get_some old n h in
    ap or_root r.1 ∙ sym (ap or_root (keeps n r.0 r.1))

pub path-of-step : (steps : List PathStep) (k : ℕ) (s : PathStep) → slice_get steps k ≡ Some s → slice_get (paths_of steps) (suc k) ≡ Some s.frames
path-of-step steps k s at = slice_get-map frames_of steps k ∙ ap (option_map frames_of) at

pub path-of-root : (steps : List PathStep) → slice_get (paths_of steps) 0 ≡ Some []
path-of-root steps = refl

pub paths_of-length : (steps : List PathStep) → length (paths_of steps) ≡ suc (length steps)
paths_of-length steps = ap suc (length-map steps frames_of)
