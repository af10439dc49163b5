pub mod KeptSteps
