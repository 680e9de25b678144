use Rattle.std.specs.Prelude.{◌≡◌, ◌≢◌, ℕ, List, [], ◌∷◌, ◌++◌, All}

-- the text has one LF, at its end
pub record IsOneLine (text : List ℕ) : Type 0 where
  pub content : List ℕ
  pub ends : text ≡ content ++ 10 ∷ []
  pub no_other : All (λ byte. byte ≢ 10) content
