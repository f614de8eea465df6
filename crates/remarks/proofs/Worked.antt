-- What rows of a table are made of.

-- a statement with its proof
pub data Row : Type 1 where
  row : (Statement : Type 0) → Statement → Row
