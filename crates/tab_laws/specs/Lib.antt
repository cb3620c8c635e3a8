pub mod OtherHandles
