pub mod SimpleLemmas
mod ConstantRows
