pub mod WordLemmas
pub mod ByteLemmas
pub mod LeastLemmas
pub mod ListedLemmas
pub mod StepLemmas
pub mod Logic
pub mod Common
mod ConstantRows
