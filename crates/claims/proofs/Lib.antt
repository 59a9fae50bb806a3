mod Computing
mod PauseSession
mod StackCommands
