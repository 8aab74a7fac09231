pub mod NumeralLemmas
mod ConstantRows
