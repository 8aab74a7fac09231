pub mod StepperLemmas
