-- Texts put one behind the other, how std writes numbers, how long what is printed is, and that the numbers printed are small.
pub mod Laws
pub mod Small
