-- What a pair is made of.
-- the two domains of a product
pub record Parts (A B : Type 0) : Type 0 where
  pub first : A
  pub second : B
