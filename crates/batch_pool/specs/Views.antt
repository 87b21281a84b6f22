-- What a pass knows, and what each kind of step does to it.
use Rattle.std.specs.Prelude.{◌≡◌, ℕ, ◌+◌, ◌-◌, ◌≤◌, List, [], ◌∷◌, ◌++◌}
use Rattle.batch_pool.specs.declared.pass_view.PassView.{PassView}

abbrev pub view_with : (parts pushed : ℕ) → (taken : List ℕ) → PassView
view_with parts pushed taken = record { parts = parts; pushed = pushed; taken = taken }

-- the first pass has all parts
abbrev pub first_view : PassView
first_view = view_with 64 0 []

-- a pass from which a new one was split
abbrev pub after_split : PassView → PassView
after_split v = view_with (v.parts - 1) v.pushed v.taken

-- the new pass: one part and nothing else
abbrev pub new_view : PassView
new_view = view_with 1 0 []

-- a pass that took in another
abbrev pub after_join : PassView → PassView → PassView
after_join v other = view_with (v.parts + other.parts) (v.pushed + other.pushed) (v.taken ++ other.taken)

-- and the other
abbrev pub spent_view : PassView
spent_view = view_with 0 0 []

-- a pass that pushed one number more
abbrev pub after_push : PassView → PassView
after_push v = view_with v.parts (v.pushed + 1) v.taken

-- a pass that took one number more
abbrev pub after_pop : PassView → ℕ → PassView
after_pop v number = view_with v.parts v.pushed (v.taken ++ number ∷ [])

-- a pass with all parts that has taken nothing pushes the count of its pushes
pub record PassPushes (v : PassView) (number : ℕ) (w : PassView) : Type 0 where
  pub all_parts : v.parts ≡ 64
  pub none_taken : v.taken ≡ []
  pub next : number ≡ v.pushed
  pub after : w ≡ after_push v

-- a pass with a part takes a number
pub record PassPops (v : PassView) (number : ℕ) (w : PassView) : Type 0 where
  pub some_part : 1 ≤ v.parts
  pub after : w ≡ after_pop v number
